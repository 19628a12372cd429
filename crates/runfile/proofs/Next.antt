-- What the next turn's bytes were: they spell it, in a line that may hold a turn. Assumes nothing.
use Rattle.std.proofs.Common.{◌≡◌, ℕ, ◌+◌, ◌<◌, Bool, true, false, cond, leb, List, [], ◌∷◌, ◌++◌, Some, None, Ok, Err, Option, Result, refl, subst, arith}
use Rattle.std.proofs.lemmas.Bool.{leb-false}
use Rattle.turns.specs.declared.turn.Turn.{Turn}
use Rattle.lines.specs.Lines.{turn_line}
use Rattle.lines.specs.Spelling.{spell_turn, FitTurn}
use Rattle.lines.proofs.SpelledLines.{turn_was}
use Rattle.runfile.specs.Files.{Place, after_turn, turn_at}
use Rattle.runfile.specs.declared.refusal.Refusal.{Refusal}
use Rattle.runfile.specs.declared.refusal.Refusal.TheVariants.{TooManyTurns}

-- what asking for a turn gave
abbrev pub Next : Type 0
Next = Result (Option (Turn × Place)) Refusal

abbrev pub placed : List ℕ → ℕ → Place
placed bs line = record { rest = bs; line = line }

-- the next turn, before what follows
pub record NextSpelled (line : ℕ) (bs : List ℕ) (x : Turn × Place) : Type 0 where
  pub bytes : bs ≡ spell_turn x.0 ++ x.1.rest
  pub fit : FitTurn x.0
  pub further : x.1.line ≡ line + 1

after_was : (line : ℕ) (bs : List ℕ) (o : Option (Turn × List ℕ)) (x : Turn × Place)
    → turn_line bs ≡ o → after_turn line o ≡ Ok (Some x)
    → NextSpelled line bs x
after_was line bs None x h e = cc
after_was line bs (Some y) x h e =
    let w = turn_was bs y h in
    let same : ◌≡◌ {A = Turn × Place} (y.0, placed y.1 (line + 1)) x = cc in
    subst (λ (z : Turn × Place). NextSpelled line bs z) same (record { bytes = w.0; fit = w.1; further = refl })

pub next_was : (line : ℕ) (bs : List ℕ) (x : Turn × Place) → turn_at line bs ≡ Ok (Some x) → NextSpelled line bs x × (line < 4098)
next_was line [] x e = cc
next_was line (c ∷ cs) x e = go (leb 4098 line) refl e where
  go : (b : Bool) → leb 4098 line ≡ b → cond b (Err (TooManyTurns line)) (after_turn line (turn_line (c ∷ cs))) ≡ Ok (Some x)
      → NextSpelled line (c ∷ cs) x × (line < 4098)
  go true l e = cc
  go false l e = (after_was line (c ∷ cs) (turn_line (c ∷ cs)) x refl e, leb-false 4098 line l)

pub none_was : (line : ℕ) (bs : List ℕ) → turn_at line bs ≡ Ok None → bs ≡ []
none_was line [] e = refl
none_was line (c ∷ cs) e = grind arith
