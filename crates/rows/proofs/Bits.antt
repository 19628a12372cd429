-- Which bits a set has after a change. Assumes nothing.
use Rattle.std.proofs.Common.{◌≡◌, ℕ, ◌-◌, ◌*◌, ◌%◌, ◌^◌, ◌<◌, ◌≤◌, ◌||◌, ◌&&◌, ◌==◌, not, Bool, true, false, cond, bit_or, bit_and, sym, ap, ◌∙◌, inl, inr, arith, w32, ◌≢◌}
use Rattle.std.proofs.Math.Bool.{and-false, and-true, or-false, or-true}
use Rattle.std.proofs.lemmas.Bool.{cases_lt}
use Rattle.std.proofs.lemmas.Bool.Decides.{eqb_tells, nat_tests}
use Rattle.std.proofs.lemmas.Nat.{and_le_l, one_shl, or_lt, pow_below}
use Rattle.std.proofs.lemmas.Nat.Bits.{bit_at_above, bit_at_set_same, bit_at_set_other, bit_at_clear_same, bit_at_clear_other, bit_at-lt, bit_at-zero, same_from_bits}
use Rattle.std.specs.Int.{bit_at}
use Rattle.rows.specs.Bits.{has_bit}

-- no bit past the end
pub past : (m n k : ℕ) → m < 2 ^ n → n ≤ k → has_bit m k ≡ false
past m n k h l = rw (bit_at_above m n k h l)

pub set : (m b k : ℕ) → b < 32 → has_bit (bit_or m (1 * 2 ^ b % 4294967296)) k ≡ has_bit m k || (k == b)
set m b k l = elim (eqb_tells k b) [
  | inl e ↦ (let s = e.1 in rw (e.0, or-true (has_bit m k), s, bit_at_set_same w32 m b l))
  | inr e ↦ rw (e.0, or-false (has_bit m k), bit_at_set_other w32 m b l k e.1)
]

clear_other : (m b k : ℕ) → b < 32 → m < 2 ^ 32 → k ≢ b → has_bit (bit_and m (4294967295 - 1 * 2 ^ b % 4294967296)) k ≡ has_bit m k
clear_other m b k l h n = elim (cases_lt k 32) [
  | inl s ↦ rw (bit_at_clear_other w32 m b l k s n)
  | inr t ↦ past _ 32 k (let a = and_le_l m (4294967295 - 1 * 2 ^ b % 4294967296) in omega arith) t ∙ sym (past m 32 k h t)
]

pub clear : (m b k : ℕ) → b < 32 → m < 2 ^ 32 → has_bit (bit_and m (4294967295 - 1 * 2 ^ b % 4294967296)) k ≡ has_bit m k && not (k == b)
clear m b k l h = elim (eqb_tells k b) [
  | inl e ↦ (let s = e.1 in rw (e.0, and-false (has_bit m k), s, bit_at_clear_same w32 m b l))
  | inr e ↦ rw (e.0, and-true (has_bit m k)) (clear_other m b k l h e.1)
]

-- the same, as a table changed at one place
pub changed_there : (x t : Bool) → x && not t ≡ cond t false x
changed_there x true = and-false x
changed_there x false = and-true x

-- a board outside the set is not taken out of it
pub absent : (m n b k : ℕ) → m < 2 ^ n → n ≤ b → has_bit m k ≡ has_bit m k && not (k == b)
absent m n b k h l = elim (eqb_tells k b) [
  | inl e ↦ (let s = e.1 in rw (e.0, and-false (has_bit m k)) (ap (has_bit m) s ∙ past m n b h l))
  | inr e ↦ rw (e.0, and-true (has_bit m k))
]

pub set_below : (m b n : ℕ) → m < 2 ^ n → b < n → n ≤ 19 → bit_or m (1 * 2 ^ b % 4294967296) < 2 ^ n
set_below m b n h l f = or_lt n m _ h (let e = one_shl b 32 (omega arith) in let p = pow_below b n l in omega arith)

-- 0 has no bit, and no other number has none
pub bit_of_none : (k : ℕ) → has_bit 0 k ≡ false
bit_of_none k = rw (bit_at-zero k)

pub no_bits : (m : ℕ) → ((k : ℕ) → has_bit m k ≡ false) → m ≡ 0
no_bits m e = same_from_bits m 0 (λ i. unset (bit_at m i) (bit_at-lt m i) (e i) ∙ sym (bit_at-zero i)) where
  unset : (x : ℕ) → x < 2 → (x == 1) ≡ false → x ≡ 0
  unset x l e = grind (arith, nat_tests, e)
