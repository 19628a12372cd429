-- What a journal answers of a board, whether or not every pending record has a place left. Assumes nothing.
use Rattle.std.proofs.Common.{◌≡◌, ℕ, ◌+◌, ◌<◌, ◌≤◌, Bool, true, false, List, length, take, set, is_some, Ok, Err, Result, sym, refl, ap, ◌∙◌, ⊎_elim, arith}
use Rattle.std.proofs.lemmas.Bool.{cases_lt, le-leb}
use Rattle.store.specs.Meaning.{Kept, Meaning, standing_at, standing_of, pending_at, pending_of, put_at, put_answer, put_after, keep_at, keep_answer, keep_after, discard_after}
use Rattle.store.specs.declared.refusal.StoreRefusal.{StoreRefusal}
use Rattle.store.specs.declared.refusal.StoreRefusal.TheVariants.{BadBoard}
use Rattle.journal.specs.Logs.{kept_of}
use Rattle.journal.specs.Journals.{roomy, counted, kept_at, journal_meaning}
use Rattle.journal.specs.declared.entry.Entry.{Entry}
use Rattle.journal.specs.declared.entry.EntryKind.{EntryKind}
use Rattle.journal.specs.declared.entry.EntryKind.TheVariants.{Put, Keep, Discard}
use Rattle.journal.proofs.Answered.{err_not_ok}
use Rattle.journal.proofs.Boards.{nth_board, no_board}
use Rattle.journal.proofs.Means as means
use Rattle.journal.proofs.Means.{entry}

bool_same : {x y : Bool} → ◌≡◌ {A = Result Bool StoreRefusal} (Ok x) (Ok y) → x ≡ y
bool_same h = cc

module _ {R : Type 0} (first : R) (entries : List (Entry R)) (used n p : ℕ) where
  pub standing_none : n ≤ p → Err BadBoard ≡ standing_of (journal_meaning first entries used n) p
  standing_none h = sym (ap standing_at (no_board (kept_at first entries used n) n p h))

  pub pending_none : n ≤ p → Err BadBoard ≡ pending_of (journal_meaning first entries used n) p
  pending_none h = sym (ap pending_at (no_board (kept_at first entries used n) n p h))

  same_standing : (b : Bool) (k : Kept R) → (counted b k).standing ≡ k.standing
  same_standing true k = refl
  same_standing false k = refl

  pub standing_some : (k : Kept R) → p < n → k ≡ kept_of first (take used entries) p
      → Ok k.standing ≡ standing_of (journal_meaning first entries used n) p
  standing_some k h e =
      sym (ap standing_at (nth_board (kept_at first entries used n) n p h)
      ∙ ap Ok (same_standing (roomy first entries used n) (kept_of first (take used entries) p) ∙ sym (ap (λ j. j.standing) e)))

  -- without such a place nothing is pending
  pub pending_roomless : p < n → roomy first entries used n ≡ false → Ok false ≡ pending_of (journal_meaning first entries used n) p
  pending_roomless h e =
      sym (ap pending_at (nth_board (kept_at first entries used n) n p h)
      ∙ ap (λ b. Ok (is_some (counted b (kept_of first (take used entries) p)).pending)) e)

  pub pending_some : (k : Kept R) → p < n → roomy first entries used n ≡ true → k ≡ kept_of first (take used entries) p
      → Ok (is_some k.pending) ≡ pending_of (journal_meaning first entries used n) p
  pending_some k h t e =
      sym (ap pending_at (nth_board (kept_at first entries used n) n p h)
      ∙ ap (λ b. Ok (is_some (counted b (kept_of first (take used entries) p)).pending)) t
      ∙ ap (λ (j : Kept R). Ok (is_some j.pending)) (sym e))

  -- a board that has an answer is a board
  pub in_range : (b : Bool) → Ok b ≡ pending_of (journal_meaning first entries used n) p → p < n
  in_range b h = ⊎_elim (λ l. l) (λ l. absurd (err_not_ok (pending_none l ∙ sym h))) (cases_lt p n)

  answer_is : (b : Bool) → Ok b ≡ pending_of (journal_meaning first entries used n) p
      → is_some (counted (roomy first entries used n) (kept_of first (take used entries) p)).pending ≡ b
  answer_is b h = sym (bool_same (h ∙ ap pending_at (nth_board (kept_at first entries used n) n p (in_range b h))))

  -- what is pending counts, and has a place
  pub pending_here : Ok true ≡ pending_of (journal_meaning first entries used n) p
      → (roomy first entries used n ≡ true) × (is_some (kept_of first (take used entries) p).pending ≡ true)
  pending_here h = go (roomy first entries used n) (answer_is true h) where
    go : (b : Bool) → is_some (counted b (kept_of first (take used entries) p)).pending ≡ true
        → (b ≡ true) × (is_some (kept_of first (take used entries) p).pending ≡ true)
    go true e = (refl, e)
    go false e = absurd (let z : ◌≡◌ {A = ℕ} 0 1 = cc in omega arith)

  pub free_here : Ok false ≡ pending_of (journal_meaning first entries used n) p → roomy first entries used n ≡ true
      → is_some (kept_of first (take used entries) p).pending ≡ false
  free_here h t = sym (ap (λ b. is_some (counted b (kept_of first (take used entries) p)).pending) t) ∙ answer_is false h

  -- so is one for which a call is taken
  pub put_range : Ok tt ≡ put_answer (journal_meaning first entries used n) p → p < n
  put_range h =
      ⊎_elim (λ l. l) (λ l. absurd (err_not_ok (ap (put_at _) (sym (no_board (kept_at first entries used n) n p l)) ∙ sym h))) (cases_lt p n)

  pub keep_range : Ok tt ≡ keep_answer (journal_meaning first entries used n) p → p < n
  keep_range h =
      ⊎_elim (λ l. l) (λ l. absurd (err_not_ok (ap keep_at (sym (no_board (kept_at first entries used n) n p l)) ∙ sym h))) (cases_lt p n)

  -- a pending record is one of those that are counted
  pub place_left : Ok true ≡ pending_of (journal_meaning first entries used n) p → used < length entries
  place_left h =
      let here = pending_here h in
      means.place_left first entries used n p (in_range true h) (kept_of first (take used entries) p) refl here.0 here.1

  module _ (r : R) (b : ℕ) where
    abbrev pub After : EntryKind → Meaning R → Type 0
    After kind m =
        (journal_meaning first (set entries used (entry p kind r b)) (used + 1) n ≡ m)
        × (roomy first (set entries used (entry p kind r b)) (used + 1) n ≡ true)

    -- the meaning after put, and that every pending record still has its place
    pub put_means : Ok false ≡ pending_of (journal_meaning first entries used n) p
        → ((journal_meaning first entries used n).spare ≡ 0 → ⊥) → After Put (put_after 1 (journal_meaning first entries used n) p r)
    put_means h z =
        let left = means.spare_left first entries used n p z in
        let room : roomy first entries used n ≡ true = le-leb _ _ (omega (arith, left)) in
        means.put_means first entries used n p (in_range false h) (kept_of first (take used entries) p) refl r b (free_here h room) z

    -- the two calls that end a pending record
    pub keep_means : Ok true ≡ pending_of (journal_meaning first entries used n) p
        → After Keep (keep_after (journal_meaning first entries used n) p)
    keep_means h =
        let here = pending_here h in
        means.end_means first entries used n p (in_range true h) (kept_of first (take used entries) p) refl r b Keep
        (λ e. cc, λ e. cc) here.0 here.1

    pub discard_means : Ok true ≡ pending_of (journal_meaning first entries used n) p
        → After Discard (discard_after (journal_meaning first entries used n) p)
    discard_means h =
        let here = pending_here h in
        means.end_means first entries used n p (in_range true h) (kept_of first (take used entries) p) refl r b Discard
        (λ e. cc, λ e. cc) here.0 here.1
