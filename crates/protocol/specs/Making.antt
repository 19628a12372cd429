-- Making a console: its refusals, and its state when new.
use Rattle.std.specs.Prelude.{ℕ, Bool, false, cond, not, ◌||◌, List, [], ◌∷◌, length, is_some, Some, None, Option, ◌==◌, nat_lt}
use Rattle.records.specs.Rules.{Rules}
use Rattle.store.specs.Meaning.{Kept, Meaning}
use Rattle.protocol.specs.Rows.{new_row}
use Rattle.protocol.specs.Effects.{State}
use Rattle.turns.specs.declared.making.MakingRefusal.{MakingRefusal}
use Rattle.turns.specs.declared.making.MakingRefusal.TheVariants.{BadCount, BadStore, WrongTable}

-- the most boards of a loom
abbrev pub most_boards : ℕ
most_boards = 19

abbrev pub some_pending : {R : Type 0} → List (Kept R) → Bool
some_pending [] = false
some_pending (k ∷ ks) = is_some k.pending || some_pending ks

-- for n boards, over a store, with a state table of k records
abbrev pub making_refused : {R : Type 0} → ℕ → Meaning R → ℕ → Option MakingRefusal
making_refused n store k =
    cond (n == 0 || nat_lt most_boards n) (Some BadCount) (
    cond (not (length store.boards == n) || some_pending store.boards) (Some BadStore) (
    cond (not (k == n)) (Some WrongTable) None))

-- every board is new, the wire is empty, and the first record stands in every place of the state table
abbrev pub new_state : {R : Type 0} → Rules R → Meaning R → State R
new_state rules store = record { rows = λ i. new_row; wire = []; table = λ i. rules.first; store = store }
