-- The digits that bytes begin with, and what they write. Assumes nothing.
use Rattle.std.proofs.Common.{◌≡◌, ℕ, ◌+◌, ◌-◌, ◌*◌, ◌^◌, ◌<◌, ◌≤◌, true, List, [], ◌∷◌, length, get_or, None, arith, ap, ◌∙◌}
use Rattle.std.specs.Char.{is_ascii_digit}
use Rattle.std.proofs.lemmas.Bool.{cond-true, cond-false, le-ltb, le-leb, and_from}
use Rattle.lines.specs.Numbers.{digits, after_digits, value_from, leading}

-- a number only grows with its digits
value_ge : (v : ℕ) (ds : List ℕ) → v ≤ value_from v ds
value_ge v [] = omega arith
value_ge v (c ∷ cs) = let h = value_ge (v * 10 + (c - 48)) cs in omega arith

-- digits that write v are gone through, and the rest of the bytes is to come
pub record Reached (bs : List ℕ) (v : ℕ) (rest : List ℕ) : Type 0 where
  pub value : value_from 0 (digits bs) ≡ value_from v (digits rest)
  pub after : after_digits bs ≡ after_digits rest
  pub small : v < 2 ^ 32

-- where one digit more passes the bound, all the digits do
pub over_front : (bs : List ℕ) (v : ℕ) (rest : List ℕ) → Reached bs v rest → 0 < length rest → 48 ≤ get_or rest 0 0 → get_or rest 0 0 < 58
    → (v * 10 + (get_or rest 0 0 - 48) < 2 ^ 32 → ⊥) → leading bs ≡ None
over_front bs v [] r l low high over = absurd (omega (arith, l))
over_front bs v (c ∷ cs) r l low high over =
    let digit : is_ascii_digit c ≡ true = and_from _ _ (le-leb _ _ low) (le-leb _ _ (omega (arith, high))) in
    let whole : value_from 0 (digits bs) ≡ value_from (v * 10 + (c - 48)) (digits cs) =
    r.value ∙ ap (value_from v) (cond-true (is_ascii_digit c) (c ∷ digits cs) [] digit) in
    let grown = value_ge (v * 10 + (c - 48)) (digits cs) in
    let large : 2 ^ 32 ≤ value_from 0 (digits bs) = omega (arith, whole, grown, over) in
    cond-false _ _ _ (le-ltb _ _ large)
