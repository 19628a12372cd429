-- What put, keep and drop leave of a journal's meaning. Assumes nothing.
use Rattle.std.proofs.Common.{◌≡◌, ◌≢◌, ℕ, ◌+◌, ◌-◌, ◌/◌, ◌<◌, ◌≤◌, Bool, true, false, cond, List, length, take, set, is_some, is_ok, Some, None, Ok, Option, sym, refl, ap, ◌∙◌, arith, length-set}
use Rattle.std.proofs.lemmas.Bool.{leb-true, le-leb, cond-false, ne_eqb}
use Rattle.store.specs.Meaning.{Kept, Meaning, Answer, updated, putting, keeping, discarding, put_under, put_at, put_answer, put_after, keep_under, keep_at, keep_answer}
use Rattle.journal.specs.Logs.{by_kind, kept_of, pending_one}
use Rattle.journal.specs.Journals.{pendings, roomy, journal_meaning, ended_after}
use Rattle.journal.specs.declared.entry.Entry.{Entry}
use Rattle.journal.specs.declared.entry.EntryKind.{EntryKind}
use Rattle.journal.specs.declared.entry.EntryKind.TheVariants.{First, Put, Keep, Discard}
use Rattle.journal.proofs.Appended.{count_more, boards_more}
use Rattle.journal.proofs.Asked.{board_at}
use Rattle.journal.proofs.Boards.{nth_board, sum_has}

-- what is kept of a board changed, and the spare
abbrev changed : {R : Type 0} → (Kept R → Kept R) → Meaning R → ℕ → ℕ → Meaning R
changed f m p spare = record { boards = updated f m.boards p; spare = spare }

module _ {R : Type 0} (first : R) (entries : List (Entry R)) (used n : ℕ) (e : Entry R) where
  -- one entry more, where what is pending counts before and after
  means : (room : used < length entries)
      → roomy first entries used n ≡ true → roomy first (set entries used e) (used + 1) n ≡ true → (spare : ℕ)
      → (length (set entries used e) - (used + 1) - pendings first (set entries used e) (used + 1) n) / 2 ≡ spare
      → journal_meaning first (set entries used e) (used + 1) n
      ≡ changed (by_kind e.kind e.state) (journal_meaning first entries used n) e.board spare
  means room before then spare s = λ i. record { boards = boards_more first entries used n e room before then i; spare = s i }

module _ {R : Type 0} (first : R) (entries : List (Entry R)) (used n p : ℕ) where
  pub spare_left : ((journal_meaning first entries used n).spare ≡ 0 → ⊥) → used + pendings first entries used n + 2 ≤ length entries
  spare_left z = omega (arith, z)

-- an entry that points back to any place
abbrev pub entry : {R : Type 0} → ℕ → EntryKind → R → ℕ → Entry R
entry p kind r b = record { board = p; kind = kind; state = r; back = b }

-- a call for a board, of which k is kept
module _ {R : Type 0} (first : R) (entries : List (Entry R)) (used n p : ℕ) (within : p < n)
    (k : Kept R) (is : k ≡ kept_of first (take used entries) p) where
  abbrev m : Meaning R
  m = journal_meaning first entries used n

  pending_is : (b : Bool) → is_some k.pending ≡ b → is_some (kept_of first (take used entries) p).pending ≡ b
  pending_is b e = ap (λ (j : Kept R). is_some j.pending) (sym is) ∙ e

  -- a pending record is one of those that are counted
  pub place_left : roomy first entries used n ≡ true → is_some k.pending ≡ true → used < length entries
  place_left room some =
      let one : pending_one (kept_of first (take used entries) p) ≡ 1 = ap (λ b. cond b 1 0) (pending_is true some) in
      let more = sum_has pending_one _ p _ (nth_board (kept_of first (take used entries)) n p within) in
      let fits = leb-true _ _ room in
      omega (arith, one, more, fits)

  good_under : (o : Option R) → is_some o ≡ true → Ok tt ≡ keep_under o
  good_under None e = cc
  good_under (Some x) e = refl

  free_under : (s : ℕ) (o : Option R) → is_some o ≡ false → (s ≡ 0 → ⊥) → Ok tt ≡ put_under s o
  free_under s None e z = sym (cond-false _ _ _ (ne_eqb s 0 z))
  free_under s (Some x) e z = cc

  put_good : roomy first entries used n ≡ true → is_some k.pending ≡ false → (m.spare ≡ 0 → ⊥) → Ok tt ≡ put_answer m p
  put_good room free z =
      free_under _ _ (pending_is false free) z ∙ ap (put_at _) (sym (board_at first entries used n p room within))

  keep_good : roomy first entries used n ≡ true → is_some k.pending ≡ true → Ok tt ≡ keep_answer m p
  keep_good room some = good_under _ (pending_is true some) ∙ ap keep_at (sym (board_at first entries used n p room within))

  module _ (r : R) (b : ℕ) where
    abbrev with : EntryKind → List (Entry R)
    with kind = set entries used (entry p kind r b)

    -- the meaning after put, and that every pending record still has its place
    pub put_means : is_some k.pending ≡ false → (m.spare ≡ 0 → ⊥)
        → (journal_meaning first (with Put) (used + 1) n ≡ put_after 1 m p r) × (roomy first (with Put) (used + 1) n ≡ true)
    put_means free z =
        let e = entry p Put r b in
        let left = spare_left first entries used n p z in
        let room : used < length entries = omega (arith, left) in
        let before : roomy first entries used n ≡ true = le-leb _ _ (omega (arith, left)) in
        let none : pending_one (kept_of first (take used entries) p) ≡ 0 = ap (λ v. cond v 1 0) (pending_is false free) in
        let count = count_more first entries used n e room within in
        let same = length-set entries used e in
        let then : roomy first (with Put) (used + 1) n ≡ true = le-leb _ _ (omega (arith, left, none, count, same)) in (
          means first entries used n e room before then _ (omega (arith, left, none, count, same))
              ∙ ap (λ (v : Answer). cond (is_ok v) (changed (putting r) m p (m.spare - 1)) m) (put_good before free z),
          then,
        )

    -- the two calls that end a pending record: one fewer is pending, and one place more is used
    ends : (kind : EntryKind) → ((j : Kept R) → (by_kind kind r j).pending ≡ None)
        → roomy first entries used n ≡ true → is_some k.pending ≡ true
        → (journal_meaning first (with kind) (used + 1) n ≡ changed (by_kind kind r) m p m.spare)
        × (roomy first (with kind) (used + 1) n ≡ true)
    ends kind over room some =
        let e = entry p kind r b in
        let fits = leb-true _ _ room in
        let free = place_left room some in
        let one : pending_one (kept_of first (take used entries) p) ≡ 1 = ap (λ v. cond v 1 0) (pending_is true some) in
        let none : pending_one (by_kind kind r (kept_of first (take used entries) p)) ≡ 0 =
        ap (λ (o : Option R). cond (is_some o) 1 0) (over (kept_of first (take used entries) p)) in
        let count = count_more first entries used n e free within in
        let same = length-set entries used e in
        let then : roomy first (with kind) (used + 1) n ≡ true = le-leb _ _ (omega (arith, fits, one, none, count, same)) in
        (means first entries used n e free room then _ (omega (arith, fits, one, none, count, same)), then)

    pub end_means : (kind : EntryKind) → (kind ≢ First) × (kind ≢ Put)
        → roomy first entries used n ≡ true → is_some k.pending ≡ true
        → (journal_meaning first (with kind) (used + 1) n ≡ ended_after kind m p) × (roomy first (with kind) (used + 1) n ≡ true)
    end_means First t room some = absurd (t.0 refl)
    end_means Put t room some = absurd (t.1 refl)
    end_means Keep t room some =
        let done = ends Keep (λ j. refl) room some in
        (done.0 ∙ ap (λ (v : Answer). cond (is_ok v) (changed keeping m p m.spare) m) (keep_good room some), done.1)
    end_means Discard t room some =
        let done = ends Discard (λ j. refl) room some in
        (done.0 ∙ ap (λ (v : Answer). cond (is_ok v) (changed discarding m p m.spare) m) (keep_good room some), done.1)
