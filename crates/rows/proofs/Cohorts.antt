-- A cohort is made board by board: one board more. Assumes nothing.
use Rattle.std.proofs.Common.{◌≡◌, ℕ, ◌+◌, ◌||◌, ◌&&◌, Bool, true, false, eqb, ltb, sym, refl, ap, ◌∙◌, inl, inr, arith}
use Rattle.std.proofs.Math.Bool.{and-true, and-false}
use Rattle.std.proofs.lemmas.Bool.Decides.{eqb_tells, nat_tests}

-- whether b is among those below o, and is o
later : (b o : ℕ) → ltb b (o + 1) ≡ ltb b o || eqb b o
later b o = grind (arith, nat_tests)

split : (x y z : Bool) → (x || y) && z ≡ (x && z) || (y && z)
split true true true = refl
split true true false = refl
split true false true = refl
split true false false = refl
split false y z = refl

-- x of o, where b is o
here : (x : ℕ → Bool) (b o : ℕ) (t : Bool) → x o ≡ t → eqb b o && x b ≡ t && eqb b o
here x b o t e = elim (eqb_tells b o) [
  | inl k ↦ (let s = k.1 in rw k.0 (ap x s ∙ e ∙ sym (and-true t)))
  | inr k ↦ rw k.0 (sym (and-false t))
]

pub one_more : (x : ℕ → Bool) (b o : ℕ) (old t : Bool) → old ≡ ltb b o && x b → x o ≡ t
    → old || (t && eqb b o) ≡ ltb b (o + 1) && x b
one_more x b o old t e k = rw (e, later b o, split (ltb b o) (eqb b o) (x b), here x b o t k)
