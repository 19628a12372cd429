-- The slot store: two places a board, and what they mean.
use Rattle.std.specs.Prelude.{ℕ, zero, suc, ◌+◌, ◌*◌, Bool, true, false, cond, List, [], ◌∷◌, ◌++◌, drop, is_ok, Some, None, Option, nat_lt, slice_set}
use Rattle.std.specs.List.{slice_get}
use Rattle.store.specs.Meaning.{Kept, Meaning, put_answer, keep_answer, make_refused}
use Rattle.store.specs.declared.refusal.MakeRefusal.{MakeRefusal}
use Rattle.store.specs.declared.slots.Slot.{Slot}

abbrev pub filled : {R : Type 0} → Bool → R → Slot R
filled b r = record { taken = b; state = r }

-- what two places keep of a board
abbrev pub pair : {R : Type 0} → Slot R → Slot R → Kept R
pair a b = record { standing = a.state; pending = cond b.taken (Some b.state) None }

-- the boards, two places each
abbrev pub pairs : {R : Type 0} → List (Slot R) → List (Kept R)
pairs [] = []
pairs (a ∷ []) = []
pairs (a ∷ b ∷ rest) = pair a b ∷ pairs rest

abbrev pub slot_meaning : {R : Type 0} → List (Slot R) → Meaning R
slot_meaning xs = record { boards = pairs xs; spare = 1 }

-- the places of a new store: for each board a standing record, and an empty place, which holds the first record too
abbrev pub fresh_slots : {R : Type 0} → R → ℕ → List (Slot R)
fresh_slots first zero = []
fresh_slots first (suc n) = filled true first ∷ filled false first ∷ fresh_slots first n

-- why a slot store is not made: of 0 or over 64 boards, then of fewer than two places a board
abbrev pub slots_refused : ℕ → ℕ → Option MakeRefusal
slots_refused places n = make_refused (nat_lt places (2 * n)) n

-- the memory after making: the places of a new store, and what was there past them; at a refusal as it was
abbrev pub prepared : {R : Type 0} → R → List (Slot R) → ℕ → Option MakeRefusal → List (Slot R)
prepared first xs n None = fresh_slots first n ++ drop (2 * n) xs
prepared first xs n (Some why) = xs

-- what the pending place of a board holds
abbrev pub state_or : {R : Type 0} → R → Option (Slot R) → R
state_or first None = first
state_or first (Some slot) = slot.state

-- the places after put, keep and drop; a refusal leaves them
abbrev pub put_slots : {R : Type 0} → List (Slot R) → ℕ → R → List (Slot R)
put_slots xs p r = cond (is_ok (put_answer (slot_meaning xs) p)) (slice_set xs (2 * p + 1) (filled true r)) xs

abbrev pub keep_slots : {R : Type 0} → R → List (Slot R) → ℕ → List (Slot R)
keep_slots first xs p =
    cond (is_ok (keep_answer (slot_meaning xs) p))
    (slice_set (slice_set xs (2 * p) (filled true (state_or first (slice_get xs (2 * p + 1))))) (2 * p + 1) (filled false first))
    xs

abbrev pub discard_slots : {R : Type 0} → R → List (Slot R) → ℕ → List (Slot R)
discard_slots first xs p = cond (is_ok (keep_answer (slot_meaning xs) p)) (slice_set xs (2 * p + 1) (filled false first)) xs
