-- What a write of one place does to its board, in a list of any length and at any board. Assumes nothing.
use Rattle.std.proofs.Common.{◌≡◌, ℕ, zero, suc, ◌+◌, ◌*◌, cond, List, [], ◌∷◌, set, Some, None, sym, refl, ap, ◌∙◌, arith}
use Rattle.store.specs.Meaning.{Kept, updated}
use Rattle.store.specs.Slots.{pair, pairs}
use Rattle.store.specs.declared.slots.Slot.{Slot}

abbrev double : ℕ → ℕ
double zero = zero
double (suc n) = suc (suc (double n))

double_is : (n : ℕ) → double n ≡ 2 * n
double_is zero = refl
double_is (suc n) = let h = double_is n in omega arith

odd_is : (p : ℕ) → 2 * p + 1 ≡ suc (double p)
odd_is p = let h = double_is p in omega arith

abbrev pub pending_is : {R : Type 0} → Slot R → Kept R → Kept R
pending_is b k = record { standing = k.standing; pending = cond b.taken (Some b.state) None }

abbrev pub standing_is : {R : Type 0} → Slot R → Kept R → Kept R
standing_is a k = record { standing = a.state; pending = k.pending }

odd_double : {R : Type 0} (xs : List (Slot R)) (p : ℕ) (b : Slot R) → pairs (set xs (suc (double p)) b) ≡ updated (pending_is b) (pairs xs) p
odd_double [] zero b = refl
odd_double [] (suc p) b = refl
odd_double (x ∷ []) zero b = refl
odd_double (x ∷ []) (suc p) b = refl
odd_double (x ∷ y ∷ rest) zero b = refl
odd_double (x ∷ y ∷ rest) (suc p) b = ap (λ t. pair x y ∷ t) (odd_double rest p b)

even_double : {R : Type 0} (xs : List (Slot R)) (p : ℕ) (a : Slot R) → pairs (set xs (double p) a) ≡ updated (standing_is a) (pairs xs) p
even_double [] zero a = refl
even_double [] (suc p) a = refl
even_double (x ∷ []) zero a = refl
even_double (x ∷ []) (suc p) a = refl
even_double (x ∷ y ∷ rest) zero a = refl
even_double (x ∷ y ∷ rest) (suc p) a = ap (λ t. pair x y ∷ t) (even_double rest p a)

-- a write of a pending place
pub set_pending : {R : Type 0} (xs : List (Slot R)) (p : ℕ) (b : Slot R) → pairs (set xs (2 * p + 1) b) ≡ updated (pending_is b) (pairs xs) p
set_pending xs p b = ap (λ i. pairs (set xs i b)) (odd_is p) ∙ odd_double xs p b

-- a write of a standing place
pub set_standing : {R : Type 0} (xs : List (Slot R)) (p : ℕ) (a : Slot R) → pairs (set xs (2 * p) a) ≡ updated (standing_is a) (pairs xs) p
set_standing xs p a = ap (λ i. pairs (set xs i a)) (sym (double_is p)) ∙ even_double xs p a
