-- What a log of entries keeps of each board.
use Rattle.std.specs.Prelude.{◌≡◌, ◌≢◌, ℕ, ◌+◌, ◌<◌, IfSome, IsSomeAnd, cond, List, [], ◌∷◌, map, is_some, None, fold, sum_by, ◌==◌}
use Rattle.std.specs.List.{slice_get, range_with_len}
use Rattle.store.specs.Meaning.{Kept, putting, keeping, discarding}
use Rattle.journal.specs.declared.log.Kept as held
use Rattle.journal.specs.declared.entry.Entry.{Entry}
use Rattle.journal.specs.declared.entry.EntryKind.{EntryKind}
use Rattle.journal.specs.declared.entry.EntryKind.TheVariants.{First, Put, Keep, Discard}

-- the number of each kind
abbrev pub kind_number : EntryKind → ℕ
kind_number First = 0
kind_number Put = 1
kind_number Keep = 2
kind_number Discard = 3

-- what an entry makes of what is kept of its board
abbrev pub by_kind : {R : Type 0} → EntryKind → R → Kept R → Kept R
by_kind First r k = record { standing = r; pending = None }
by_kind Put r k = putting r k
by_kind Keep r k = keeping k
by_kind Discard r k = discarding k

-- an entry tells only of its own board
abbrev pub told : {R : Type 0} → ℕ → Kept R → Entry R → Kept R
told p k e = cond (e.board == p) (by_kind e.kind e.state k) k

-- what a log keeps of a board: the first record, and then what its entries make of it
abbrev pub kept_of : {R : Type 0} → R → List (Entry R) → ℕ → Kept R
kept_of first log p = fold (told p) (record { standing = first; pending = None }) log

-- of all n boards
abbrev pub kept_all : {R : Type 0} → R → List (Entry R) → ℕ → List (Kept R)
kept_all first log n = map (kept_of first log) (range_with_len 0 n)

-- 1 where a record is pending
abbrev pub pending_one : {R : Type 0} → Kept R → ℕ
pending_one k = cond (is_some k.pending) 1 0

-- how many boards have one pending
abbrev pub pending_count : {R : Type 0} → List (Kept R) → ℕ
pending_count ks = sum_by pending_one ks

-- the place of a board's latest entry, the log beginning at place i; k where it has none
abbrev pub latest_from : {R : Type 0} → ℕ → ℕ → ℕ → List (Entry R) → ℕ
latest_from p k i [] = k
latest_from p k i (e ∷ es) = latest_from p (cond (e.board == p) i k) (i + 1) es

-- what code holds of a board: the standing record, and the pending one or none
abbrev pub as_kept : {R : Type 0} → held.Kept R → Kept R
as_kept k = record { standing = k.standing; pending = k.pending }

-- no entry of the log is of this board
abbrev pub NoneOf : {R : Type 0} → ℕ → List (Entry R) → Type 0
NoneOf p log = (k : ℕ) → IfSome (slice_get log k) (λ e. e.board ≢ p)

-- this place has an entry of the board, and no later one has
abbrev pub LatestAt : {R : Type 0} → ℕ → List (Entry R) → ℕ → Type 0
LatestAt p log i =
    IsSomeAnd (slice_get log i) (λ e. e.board ≡ p)
    × ((k : ℕ) → i < k → IfSome (slice_get log k) (λ e. e.board ≢ p))
