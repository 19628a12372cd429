-- What a store means, and what each call does to that.
use Rattle.std.specs.Prelude.{ℕ, zero, suc, ◌-◌, Bool, cond, ◌||◌, List, [], ◌∷◌, replicate, is_some, is_ok, Some, None, Ok, Err, Option, Result, ◌==◌, nat_lt}
use Rattle.std.specs.List.{slice_get}
use Rattle.store.specs.declared.refusal.MakeRefusal.{MakeRefusal}
use Rattle.store.specs.declared.refusal.MakeRefusal.TheVariants.{BadCount, BadRoom}
use Rattle.store.specs.declared.refusal.StoreRefusal.{StoreRefusal}
use Rattle.store.specs.declared.refusal.StoreRefusal.TheVariants.{BadBoard, WrongPending, NoSpare}

-- what is kept of one board
pub record Kept (R : Type 0) : Type 0 where
  pub standing : R
  pub pending : Option R

pub record Meaning (R : Type 0) : Type 0 where
  pub boards : List (Kept R)
  pub spare : ℕ

-- the number of each refusal
abbrev pub refusal_number : StoreRefusal → ℕ
refusal_number BadBoard = 31
refusal_number WrongPending = 32
refusal_number NoSpare = 33

abbrev pub make_number : MakeRefusal → ℕ
make_number BadCount = 34
make_number BadRoom = 35

abbrev pub Answer : Type 0
Answer = Result (Unit {0}) StoreRefusal

-- the questions about a board refuse a bad one
abbrev pub standing_at : {R : Type 0} → Option (Kept R) → Result R StoreRefusal
standing_at None = Err BadBoard
standing_at (Some k) = Ok k.standing

abbrev pub standing_of : {R : Type 0} → Meaning R → ℕ → Result R StoreRefusal
standing_of m p = standing_at (slice_get m.boards p)

abbrev pub pending_at : {R : Type 0} → Option (Kept R) → Result Bool StoreRefusal
pending_at None = Err BadBoard
pending_at (Some k) = Ok (is_some k.pending)

abbrev pub pending_of : {R : Type 0} → Meaning R → ℕ → Result Bool StoreRefusal
pending_of m p = pending_at (slice_get m.boards p)

-- the list with the element at a place replaced by f of it
abbrev pub updated : {A : Type 0} → (A → A) → List A → ℕ → List A
updated f [] i = []
updated f (x ∷ xs) zero = f x ∷ xs
updated f (x ∷ xs) (suc i) = x ∷ updated f xs i

-- put refuses a bad board, then a pending record, then a spare of 0
abbrev pub put_under : {R : Type 0} → ℕ → Option R → Answer
put_under s (Some r) = Err WrongPending
put_under s None = cond (s == 0) (Err NoSpare) (Ok tt)

abbrev pub put_at : {R : Type 0} → ℕ → Option (Kept R) → Answer
put_at s None = Err BadBoard
put_at s (Some k) = put_under s k.pending

abbrev pub put_answer : {R : Type 0} → Meaning R → ℕ → Answer
put_answer m p = put_at m.spare (slice_get m.boards p)

abbrev pub putting : {R : Type 0} → R → Kept R → Kept R
putting r k = record { standing = k.standing; pending = Some r }

-- put: a pending record, and the spare lowered by the wear; a refusal alters nothing
abbrev pub put_after : {R : Type 0} → ℕ → Meaning R → ℕ → R → Meaning R
put_after w m p r = cond (is_ok (put_answer m p)) (record { boards = updated (putting r) m.boards p; spare = m.spare - w }) m

-- keep and drop refuse a bad board, then a board with none pending
abbrev pub keep_under : {R : Type 0} → Option R → Answer
keep_under (Some r) = Ok tt
keep_under None = Err WrongPending

abbrev pub keep_at : {R : Type 0} → Option (Kept R) → Answer
keep_at None = Err BadBoard
keep_at (Some k) = keep_under k.pending

abbrev pub keep_answer : {R : Type 0} → Meaning R → ℕ → Answer
keep_answer m p = keep_at (slice_get m.boards p)

abbrev pub or_else : {R : Type 0} → Option R → R → R
or_else (Some r) d = r
or_else None d = d

-- keep: what was pending stands
abbrev pub keeping : {R : Type 0} → Kept R → Kept R
keeping k = record { standing = or_else k.pending k.standing; pending = None }

abbrev pub keep_after : {R : Type 0} → Meaning R → ℕ → Meaning R
keep_after m p = cond (is_ok (keep_answer m p)) (record { boards = updated keeping m.boards p; spare = m.spare }) m

-- drop: nothing is pending
abbrev pub discarding : {R : Type 0} → Kept R → Kept R
discarding k = record { standing = k.standing; pending = None }

abbrev pub discard_after : {R : Type 0} → Meaning R → ℕ → Meaning R
discard_after m p = cond (is_ok (keep_answer m p)) (record { boards = updated discarding m.boards p; spare = m.spare }) m

-- a new store: the first record standing everywhere, and none pending
abbrev pub fresh_meaning : {R : Type 0} → R → ℕ → ℕ → Meaning R
fresh_meaning first spare n = record { boards = replicate n (record { standing = first; pending = None }); spare = spare }

-- why a store is not made: of 0 or over 64 boards, then in a memory that does not fit them
abbrev pub make_refused : Bool → ℕ → Option MakeRefusal
make_refused unfit n = cond (n == 0 || nat_lt 64 n) (Some BadCount) (cond unfit (Some BadRoom) None)
