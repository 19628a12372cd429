-- The places of a new store. Assumes nothing.
use Rattle.std.proofs.Common.{◌≡◌, ℕ, zero, suc, ◌+◌, ◌*◌, ◌%◌, ◌<◌, true, false, ◌∷◌, length, get_or, replicate, eqb, None, refl, ap, ◌∙◌, arith}
use Rattle.store.specs.Slots.{filled, fresh_slots, pairs}
use Rattle.store.specs.declared.slots.Slot.{Slot}

module _ {R : Type 0} (first : R) where
  pub length_fresh : (n : ℕ) → length (fresh_slots first n) ≡ 2 * n
  length_fresh zero = refl
  length_fresh (suc n) = let h = length_fresh n in omega arith

  -- a standing place is taken, a pending one is not
  pub fresh_at : (n i : ℕ) (d : Slot R) → i < 2 * n → get_or (fresh_slots first n) i d ≡ filled (eqb (i % 2) 0) first
  fresh_at zero i d h = absurd (omega arith)
  fresh_at (suc n) zero d h = refl
  fresh_at (suc n) (suc zero) d h = refl
  fresh_at (suc n) (suc (suc i)) d h =
      let same : i % 2 ≡ suc (suc i) % 2 = omega arith in
      fresh_at n i d (omega arith) ∙ ap (λ k. filled (eqb k 0) first) same

  pub fresh_standing : (n b : ℕ) (d : Slot R) → b < n → get_or (fresh_slots first n) (2 * b) d ≡ filled true first
  fresh_standing n b d h =
      let even : 2 * b % 2 ≡ 0 = omega arith in
      fresh_at n (2 * b) d (omega arith) ∙ ap (λ k. filled (eqb k 0) first) even

  pub fresh_pending : (n b : ℕ) (d : Slot R) → b < n → get_or (fresh_slots first n) (2 * b + 1) d ≡ filled false first
  fresh_pending n b d h =
      let odd : (2 * b + 1) % 2 ≡ 1 = omega arith in
      fresh_at n (2 * b + 1) d (omega arith) ∙ ap (λ k. filled (eqb k 0) first) odd

  pub pairs_fresh : (n : ℕ) → pairs (fresh_slots first n) ≡ replicate n (record { standing = first; pending = None })
  pairs_fresh zero = refl
  pairs_fresh (suc n) = ap (λ ks. record { standing = first; pending = None } ∷ ks) (pairs_fresh n)
