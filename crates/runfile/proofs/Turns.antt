-- Reading one turn after the other gives all turns. Assumes nothing.
use Rattle.std.proofs.Common.{◌≡◌, ℕ, zero, suc, ◌+◌, ◌-◌, ◌<◌, ◌≤◌, List, [], ◌∷◌, ◌++◌, Some, None, Ok, Err, Result, sym, refl, ap, ◌∙◌, subst, arith}
use Rattle.std.proofs.lemmas.List.{append-nil, append_assoc}
use Rattle.turns.specs.declared.turn.Turn.{Turn}
use Rattle.runfile.specs.Files.{Place, first_line, next_turn, moved, before, go_on, turns_from}
use Rattle.runfile.specs.Readers.{numbered}
use Rattle.runfile.proofs.Next.{Next, next_was}
use Rattle.lines.specs.declared.loom.Loom.{Loom}
use Rattle.runfile.specs.declared.reader.TurnLine.{TurnLine}
use Rattle.runfile.specs.declared.refusal.Refusal.{Refusal}

-- all turns, by the next one
turns_by : (m : ℕ) (at : Place) → (more : Place → Result (List Turn) Refusal) × (turns_from m at ≡ go_on (next_turn at) more)
unfolding turns_from
turns_by zero at = ((λ _. Ok []), refl)
turns_by (suc m) at = (turns_from m, refl)

pub turns_none : (m : ℕ) (at : Place) → next_turn at ≡ Ok None → turns_from m at ≡ Ok []
turns_none m at e = let t = turns_by m at in t.1 ∙ ap (λ n. go_on n t.0) e

pub turns_err : (m : ℕ) (at : Place) (f : Refusal) → next_turn at ≡ Err f → turns_from m at ≡ Err f
turns_err m at f e = let t = turns_by m at in t.1 ∙ ap (λ n. go_on n t.0) e

pub turns_some : (m : ℕ) (at : Place) (x : Turn × Place) → next_turn at ≡ Ok (Some x)
    → turns_from (suc m) at ≡ before x.0 (turns_from m x.1)
unfolding turns_from
turns_some m at x e = ap (λ n. go_on n (turns_from m)) e

-- the turns that were read, before all that follow
abbrev pub prefixed : List Turn → Result (List Turn) Refusal → Result (List Turn) Refusal
prefixed ts (Ok us) = Ok (ts ++ us)
prefixed ts (Err e) = Err e

prefixed_before : (ts : List Turn) (t : Turn) (r : Result (List Turn) Refusal)
    → prefixed ts (before t r) ≡ prefixed (ts ++ t ∷ []) r
prefixed_before ts t r = grind (arith, append_assoc)

-- The turns ts are read, and the reader stands at a place from which the others follow.
pub record Halfway (start : Place) (ts : List Turn) (at : Place) : Type 0 where
  pub few : at.line ≤ 4098
  pub whole : prefixed ts (turns_from (4098 - at.line) at) ≡ turns_from 4096 start

pub halfway_none : (start : Place) → start.line ≡ 2 → Halfway start [] start
halfway_none start e = record {
  few = omega (arith, e);
  whole = nothing (turns_from (4098 - start.line) start) ∙ ap (λ l. turns_from (4098 - l) start) e;
} where
  nothing : (r : Result (List Turn) Refusal) → prefixed [] r ≡ r
  nothing r = grind arith

pub halfway_more : (start : Place) (ts : List Turn) (at : Place) (x : Turn × Place)
    → Halfway start ts at → next_turn at ≡ Ok (Some x)
    → (at.line < 4098) × Halfway start (ts ++ x.0 ∷ []) x.1
halfway_more start ts at x h e =
    let l = next_was at.line at.rest x e in
    let one_less : 4098 - at.line ≡ suc (4098 - x.1.line) = omega (arith, l.1, l.0.further) in (
      l.1,
      record {
        few = omega (arith, l.1, l.0.further);
        whole = sym (ap (prefixed ts) (ap (λ m. turns_from m at) one_less ∙ turns_some (4098 - x.1.line) at x e)
            ∙ prefixed_before ts x.0 (turns_from (4098 - x.1.line) x.1)) ∙ h.whole;
      },
    )

pub halfway_end : (start : Place) (ts : List Turn) (at : Place)
    → Halfway start ts at → next_turn at ≡ Ok None → turns_from 4096 start ≡ Ok ts
halfway_end start ts at h e =
    sym h.whole ∙ ap (prefixed ts) (turns_none (4098 - at.line) at e) ∙ ap Ok (append-nil ts)

pub halfway_err : (start : Place) (ts : List Turn) (at : Place) (f : Refusal)
    → Halfway start ts at → next_turn at ≡ Err f → turns_from 4096 start ≡ Err f
halfway_err start ts at f h e = sym h.whole ∙ ap (prefixed ts) (turns_err (4098 - at.line) at f e)

-- what the reader answered, undone
pub from_some : (line : ℕ) (n : Next) (t : TurnLine) → Ok (Some t) ≡ numbered line n
    → (x : Turn × Place) × ((n ≡ Ok (Some x)) × (t.turn ≡ x.0))
from_some line (Ok None) t e = cc
from_some line (Ok (Some x)) t e = (x, (refl, grind arith))
from_some line (Err f) t e = cc

pub from_none : (line : ℕ) (n : Next) → Ok None ≡ numbered line n → n ≡ Ok None
from_none line n e = grind arith

pub from_err : (line : ℕ) (n : Next) (f : Refusal) → Err f ≡ numbered line n → n ≡ Err f
from_err line n f e = grind arith

-- one turn of the loop, by what the reader answered and where it then stands
pub step : (start : Place) (ts : List Turn) (at to : Place) (t : TurnLine)
    → Halfway start ts at → Ok (Some t) ≡ numbered at.line (next_turn at)
    → to ≡ moved at (next_turn at) → (4098 - to.line < 4098 - at.line) × Halfway start (ts ++ t.turn ∷ []) to
step start ts at to t h answer after =
    let x = from_some at.line (next_turn at) t answer in
    let more = halfway_more start ts at x.0 h x.1.0 in
    let here : to ≡ x.0.1 = after ∙ ap (moved at) x.1.0 in
    let l = next_was at.line at.rest x.0 x.1.0 in
    let further : to.line ≡ at.line + 1 = ap (λ p. p.line) here ∙ l.0.further in (
      omega (arith, l.1, further),
      subst (λ (p : Place). Halfway start (ts ++ t.turn ∷ []) p) (sym here)
          (subst (λ (u : Turn). Halfway start (ts ++ u ∷ []) x.0.1) (sym x.1.1) more.1),
    )

-- the turns begin in line 2
pub first_two : (bs : List ℕ) (x : Loom × Place) → Ok x ≡ first_line bs → x.1.line ≡ 2
first_two bs x e = grind arith
