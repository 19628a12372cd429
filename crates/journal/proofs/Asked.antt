-- What a journal keeps of a board, where every pending record has a place left. Assumes nothing.
use Rattle.std.proofs.Common.{◌≡◌, ℕ, ◌<◌, ◌≤◌, true, List, take, Some, None, ap, ◌∙◌}
use Rattle.std.specs.List.{slice_get}
use Rattle.journal.specs.Logs.{kept_of}
use Rattle.journal.specs.Journals.{roomy, counted, kept_at, journal_meaning}
use Rattle.journal.specs.declared.entry.Entry.{Entry}
use Rattle.journal.proofs.Boards as boards

module _ {R : Type 0} (first : R) (entries : List (Entry R)) (used n p : ℕ) where
  pub board_at : roomy first entries used n ≡ true → p < n
      → slice_get (journal_meaning first entries used n).boards p ≡ Some (kept_of first (take used entries) p)
  board_at room h =
      boards.nth_board (kept_at first entries used n) n p h
      ∙ ap (λ b. Some (counted b (kept_of first (take used entries) p))) room

  pub no_board : n ≤ p → slice_get (journal_meaning first entries used n).boards p ≡ None
  no_board h = boards.no_board (kept_at first entries used n) n p h
