-- Files that are spelled are read back, and what is read was spelled so. Assumes nothing.
use Rattle.std.proofs.Common.{◌≡◌, ℕ, zero, suc, ◌+◌, ◌-◌, ◌<◌, ◌≤◌, Bool, true, false, cond, leb, List, [], ◌∷◌, ◌++◌, length, Some, None, Ok, Err, vec_items, Option, Result, refl, ap, ◌∙◌, subst, arith}
use Rattle.std.specs.List.{flat_map, AllByRecursion}
use Rattle.std.proofs.lemmas.Bool.{cond-true, cond-false, le-leb, lt-leb}
use Rattle.turns.specs.declared.turn.Turn.{Turn}
use Rattle.lines.specs.Lines.{loom_line}
use Rattle.runfile.specs.Files.{Place, after_loom, first_line, after_turn, next_turn, before, go_on, turns_from, with_loom, after_first, file_of}
use Rattle.lines.specs.Spelling.{spell_turn, spell_loom, spell_file, FitLoom, FitTurn, SpelledBy}
use Rattle.runfile.specs.Readers.{Read, ReadsBack, Spelled}
use Rattle.runfile.specs.declared.file.ReadError.{ReadError}
use Rattle.runfile.specs.declared.file.RunFile.{RunFile}
use Rattle.lines.specs.declared.loom.Loom.{Loom}
use Rattle.runfile.specs.declared.refusal.Refusal.{Refusal}
use Rattle.runfile.specs.declared.refusal.Refusal.TheVariants.{TooLong}
use Rattle.runfile.proofs.Next.{Next, placed, next_was, none_was}
use Rattle.runfile.proofs.Turns.{turns_none, turns_some}
use Rattle.lines.proofs.SpelledLines.{turn_spelled}
use Rattle.lines.proofs.SpelledLooms.{loom_spelled, loom_was}

next_spelled : (t : Turn) (bs : List ℕ) (line : ℕ) → FitTurn t → line < 4098
    → next_turn (placed (spell_turn t ++ bs) line) ≡ Ok (Some (t, placed bs (line + 1)))
next_spelled t bs line f l = cond-false _ _ _ (lt-leb 4098 line l) ∙ ap (after_turn line) (turn_spelled t bs f)

turns_spelled : (m : ℕ) (ts : List Turn) (line : ℕ) → AllByRecursion FitTurn ts → length ts ≤ m → line + length ts ≤ 4098
    → turns_from m (placed (flat_map spell_turn ts) line) ≡ Ok ts
turns_spelled m [] line f h l = turns_none m (placed [] line) refl
turns_spelled zero (t ∷ ts) line f h l = absurd (omega arith)
turns_spelled (suc m) (t ∷ ts) line f h l =
    turns_some m _ _ (next_spelled t (flat_map spell_turn ts) line f.0 (omega arith))
    ∙ ap (before t) (turns_spelled m ts (line + 1) f.1 (omega arith) (omega arith))

pub file_spelled : (loom : Loom) (ts : List Turn)
    → FitLoom loom → AllByRecursion FitTurn ts → length ts ≤ 4096 → length (spell_file loom ts) ≤ 32768
    → file_of (spell_file loom ts) ≡ Ok (loom, ts)
file_spelled loom ts fl ft few short =
    cond-true _ _ _ (le-leb _ _ short)
    ∙ ap (λ o. after_first (after_loom o)) (loom_spelled loom (flat_map spell_turn ts) fl)
    ∙ ap (with_loom loom) (turns_spelled 4096 ts 2 ft few (omega arith))

-- what is read at a place was spelled there: these turns, each within bounds, in lines that may hold one
pub record TurnsSpelled (at : Place) (ts : List Turn) : Type 0 where
  pub bytes : at.rest ≡ flat_map spell_turn ts
  pub fit : AllByRecursion FitTurn ts
  pub few : length ts ≤ 4098 - at.line

before_was : (t : Turn) (r : Result (List Turn) Refusal) (ts : List Turn) → before t r ≡ Ok ts
    → (us : List Turn) × ((r ≡ Ok us) × (t ∷ us ≡ ts))
before_was t (Ok us) ts e = (us, (refl, (cc)))
before_was t (Err f) ts e = cc

-- all turns, by the next one and what is said of those after it
go_on_was : (at : Place) (n : Next) (more : Place → Result (List Turn) Refusal) (ts : List Turn) → next_turn at ≡ n
    → ((x : Turn × Place) (us : List Turn) → next_turn at ≡ Ok (Some x) → more x.1 ≡ Ok us → TurnsSpelled x.1 us)
    → go_on n more ≡ Ok ts → TurnsSpelled at ts
go_on_was at (Ok None) more ts n rest e =
    let none : ◌≡◌ {A = List Turn} [] ts = cc in
    subst (λ (us : List Turn). TurnsSpelled at us) none
    (record { bytes = none_was at.line at.rest n; fit = tt; few = omega arith })
go_on_was at (Ok (Some x)) more ts n rest e =
    let b = before_was x.0 (more x.1) ts e in
    let next = next_was at.line at.rest x n in
    let others = rest x b.0 n b.1.0 in
    subst (λ (us : List Turn). TurnsSpelled at us) b.1.1
    (record {
      bytes = next.0.bytes ∙ ap (λ r. spell_turn x.0 ++ r) others.bytes;
      fit = (next.0.fit, others.fit);
      few = omega (arith, next.1, next.0.further, others.few);
    })
go_on_was at (Err f) more ts n rest e = cc

turns_was : (m : ℕ) (at : Place) (ts : List Turn) → 4098 ≤ m + at.line → turns_from m at ≡ Ok ts → TurnsSpelled at ts
unfolding turns_from
turns_was zero at ts h e =
    go_on_was at (next_turn at) _ ts refl (λ x us n g. absurd (let w = next_was at.line at.rest x n in omega (arith, w.1))) e
turns_was (suc m) at ts h e =
    go_on_was at (next_turn at) _ ts refl
    (λ x us n g. let w = next_was at.line at.rest x n in turns_was m x.1 us (omega (arith, w.0.further)) g) e

with_was : (loom : Loom) (r : Result (List Turn) Refusal) (x : Loom × List Turn)
    → with_loom loom r ≡ Ok x → (r ≡ Ok x.1) × (loom ≡ x.0)
with_was loom r x e = grind arith

first_was : (bs : List ℕ) (o : Option (Loom × List ℕ)) (x : Loom × List Turn) → loom_line bs ≡ o
    → after_first (after_loom o) ≡ Ok x
    → SpelledBy bs x.0 x.1
first_was bs None x h e = cc
first_was bs (Some y) x h e =
    let w = with_was y.0 (turns_from 4096 (placed y.1 2)) x e in
    let first = loom_was bs y h in
    let turns = turns_was 4096 (placed y.1 2) x.1 (omega arith) w.0 in
    record {
      bytes = first.0 ∙ (λ i. spell_loom (w.1 i) ++ turns.bytes i);
      loom = subst (λ (z : Loom). FitLoom z) w.1 first.1;
      turns = turns.fit;
      few = turns.few;
    }

pub file_was : (bs : List ℕ) (x : Loom × List Turn) → file_of bs ≡ Ok x → SpelledBy bs x.0 x.1
file_was bs x e = go (leb (length bs) 32768) e where
  go : (b : Bool) → cond b (after_first (first_line bs)) (Err TooLong) ≡ Ok x → SpelledBy bs x.0 x.1
  go true e = first_was bs (loom_line bs) x refl e
  go false e = cc

-- the laws of reading, from what was read
pub reads_back : (bs : List ℕ) (r : Result RunFile ReadError) → Read r (file_of bs) → ReadsBack bs r
reads_back bs r h loom ts fl ft few short e =
    let meant = file_spelled loom ts fl ft few (subst (λ (cs : List ℕ). length cs ≤ 32768) e short) in
    subst (λ m. Read r m) (ap file_of e ∙ meant) h

pub spelled : (bs : List ℕ) (r : Result RunFile ReadError) → Read r (file_of bs) → Spelled bs r
spelled bs (Ok file) h = file_was bs (file.loom, vec_items file.turns) h
spelled bs (Err f) h = tt
