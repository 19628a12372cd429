-- What is kept of a board by its two places, and what a write of them leaves. Assumes nothing.
use Rattle.std.proofs.Common.{◌≡◌, ℕ, ◌+◌, ◌*◌, ◌<◌, Bool, cond, List, length, get_or, set, Some, None, sym, refl, ap, ◌∙◌, arith, length-set}
use Rattle.std.proofs.lemmas.List.{get_or_default, get_or-set_same, set-set}
use Rattle.std.specs.List.{slice_get}
use Rattle.store.specs.Meaning.{Kept, updated}
use Rattle.store.specs.Slots.{pair, pairs}
use Rattle.store.specs.declared.slots.Slot.{Slot}
use Rattle.store.proofs.Pairs.{board_at, set_standing, set_pending, updated_at}

module _ {R : Type 0} (xs : List (Slot R)) (p i : ℕ) (e : i ≡ 2 * p) (h : i + 1 < length xs) (d : Slot R) where
  odd : 2 * p + 1 ≡ i + 1
  odd = omega arith

  board : slice_get (pairs xs) p ≡ Some (pair (get_or xs i d) (get_or xs (i + 1) d))
  board = board_at xs p d (omega arith) ∙ (λ j. Some (pair (get_or xs (sym e j) d) (get_or xs (odd j) d)))

  abbrev pub by_taken : Bool → Kept R
  by_taken t = record { standing = (get_or xs i d).state; pending = cond t (Some (get_or xs (i + 1) d).state) None }

  -- what is kept of the board, by whether its pending place is taken
  pub kept : (t : Bool) → (get_or xs (i + 1) d).taken ≡ t → slice_get (pairs xs) p ≡ Some (by_taken t)
  kept t z = board ∙ ap (λ v. Some (by_taken v)) z

  -- a write of the pending place changes what is kept of this board alone
  pub pending_set : (s : Slot R) (f : Kept R → Kept R) → f (pair (get_or xs i d) (get_or xs (i + 1) d)) ≡ pair (get_or xs i d) s
      → pairs (set xs (i + 1) s) ≡ updated f (pairs xs) p
  pending_set s f same =
      let first : get_or xs (2 * p) s ≡ get_or xs i d =
      ap (λ k. get_or xs k s) (sym e) ∙ get_or_default xs i s d (omega arith) in
      ap (λ k. pairs (set xs k s)) (sym odd) ∙ set_pending xs p s (omega arith) ∙ ap (λ a. set (pairs xs) p (pair a s)) first
      ∙ ap (set (pairs xs) p) (sym same) ∙ sym (updated_at f (pairs xs) p _ board)

  -- so does a write of both
  pub both_set : (s t : Slot R) (f : Kept R → Kept R) → f (pair (get_or xs i d) (get_or xs (i + 1) d)) ≡ pair s t
      → pairs (set (set xs (i + 1) t) i s) ≡ updated f (pairs xs) p
  both_set s t f same =
      let ys = set xs (i + 1) t in
      let long : length ys ≡ length xs = length-set xs (i + 1) t in
      let second : get_or ys (2 * p + 1) s ≡ t = ap (λ k. get_or ys k s) odd ∙ get_or-set_same xs (i + 1) t s h in
      let new : Kept R → Kept R = λ k. pair (get_or xs i d) t in
      ap (λ k. pairs (set ys k s)) e ∙ set_standing ys p s (omega arith)
      ∙ (λ j. set ((pending_set t new refl ∙ updated_at new (pairs xs) p _ board) j) p (pair s (second j)))
      ∙ set-set (pairs xs) p (pair (get_or xs i d) t) (pair s t)
      ∙ ap (set (pairs xs) p) (sym same) ∙ sym (updated_at f (pairs xs) p _ board)
