-- What one entry more makes of a journal. Assumes nothing.
use Rattle.std.proofs.Common.{◌≡◌, ℕ, ◌+◌, ◌<◌, true, List, [], ◌∷◌, ◌++◌, map, length, take, set, sym, refl, ap, ◌∙◌}
use Rattle.std.specs.List.{range_with_len}
use Rattle.std.proofs.lemmas.List.{take_more_set}
use Rattle.std.proofs.lemmas.List.Sums.{fold_push}
use Rattle.std.proofs.lemmas.Bool.{cond-true, cond-false, eq-eqb, ne_eqb}
use Rattle.store.specs.Meaning.{updated}
use Rattle.journal.specs.Logs.{by_kind, told, kept_of, kept_all, pending_one, pending_count}
use Rattle.journal.specs.Journals.{pendings, roomy, kept_at}
use Rattle.journal.specs.declared.entry.Entry.{Entry}
use Rattle.journal.proofs.Boards.{nth_board, updated_board, sum-updated}

module _ {R : Type 0} (first : R) (entries : List (Entry R)) (used n : ℕ) (e : Entry R) (room : used < length entries) where
  after : List (Entry R)
  after = set entries used e

  log_more : take (used + 1) (set entries used e) ≡ take used entries ++ e ∷ []
  log_more = take_more_set entries used e room

  -- what is kept of each board: the entry tells of its own
  kept_more : (q : ℕ) → kept_of first (take (used + 1) (set entries used e)) q ≡ told q (kept_of first (take used entries) q) e
  kept_more q = ap (λ log. kept_of first log q) log_more ∙ fold_push (told q) _ (take used entries) e

  kept_own : kept_of first (take (used + 1) (set entries used e)) e.board
      ≡ by_kind e.kind e.state (kept_of first (take used entries) e.board)
  kept_own = kept_more e.board ∙ cond-true _ _ _ (eq-eqb e.board e.board refl)

  kept_other : (q : ℕ) → (q ≡ e.board → ⊥)
      → kept_of first (take (used + 1) (set entries used e)) q ≡ kept_of first (take used entries) q
  kept_other q ne = kept_more q ∙ cond-false _ _ _ (ne_eqb e.board q (λ h. ne (sym h)))

  -- all boards, before any is counted out
  all_more : kept_all first (take (used + 1) (set entries used e)) n
      ≡ updated (by_kind e.kind e.state) (kept_all first (take used entries) n) e.board
  all_more =
      updated_board (kept_of first (take used entries)) (kept_of first (take (used + 1) (set entries used e)))
      (by_kind e.kind e.state) n e.board
      kept_other kept_own

  -- how many are pending
  pub count_more : e.board < n
      → pendings first (set entries used e) (used + 1) n + pending_one (kept_of first (take used entries) e.board)
      ≡ pendings first entries used n + pending_one (by_kind e.kind e.state (kept_of first (take used entries) e.board))
  count_more h =
      ap (λ ks. pending_count ks + pending_one (kept_of first (take used entries) e.board)) all_more
      ∙ sum-updated pending_one (by_kind e.kind e.state) (kept_all first (take used entries) n) e.board _
      (nth_board (kept_of first (take used entries)) n e.board h)

  -- the boards, where all that is pending counts before and after
  pub boards_more : roomy first entries used n ≡ true → roomy first (set entries used e) (used + 1) n ≡ true
      → map (kept_at first (set entries used e) (used + 1) n) (range_with_len 0 n)
      ≡ updated (by_kind e.kind e.state) (map (kept_at first entries used n) (range_with_len 0 n)) e.board
  boards_more before then =
      updated_board (kept_at first entries used n) (kept_at first (set entries used e) (used + 1) n)
      (by_kind e.kind e.state) n e.board
      (λ q ne. cond-true _ _ _ then ∙ kept_other q ne ∙ sym (cond-true _ _ _ before))
      (cond-true _ _ _ then ∙ kept_own ∙ ap (by_kind e.kind e.state) (sym (cond-true _ _ _ before)))
