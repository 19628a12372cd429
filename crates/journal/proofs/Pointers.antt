-- The pointers back of a log end at the board's first entry, and an appended entry keeps them so. Assumes nothing.
use Rattle.std.proofs.Common.{◌≡◌, ◌≢◌, ℕ, zero, suc, ◌+◌, ◌<◌, Bool, true, false, cond, eqb, ◌⊎◌, List, [], ◌∷◌, ◌++◌, length, take, set, Some, sym, refl, ap, ◌∙◌, subst, inl, inr, ⊎_elim, arith}
use Rattle.std.specs.List.{slice_get}
use Rattle.std.proofs.lemmas.Bool.{cases_lt, eqb-true, eq-eqb, cond-true}
use Rattle.std.proofs.lemmas.List.{take_more_set}
use Rattle.std.proofs.lemmas.Option.{slice_get_within, same_Some, none-some}
use Rattle.journal.specs.Journals.{entry_of, first_entry, fresh_entries}
use Rattle.journal.proofs.Boards.{nth_board, no_board}
use Rattle.journal.specs.Logs.{latest_from}
use Rattle.journal.specs.Pointers.{Stands, PointsBy, Threaded, EndsBy, Ends, Traced}
use Rattle.journal.specs.declared.entry.Entry.{Entry}
use Rattle.journal.specs.declared.entry.EntryKind.{EntryKind}
use Rattle.journal.specs.declared.entry.EntryKind.TheVariants.{First, Put, Keep, Discard}

-- the place of an entry of the board, in a log that begins at place i
abbrev Found : {R : Type 0} → List (Entry R) → ℕ → ℕ → ℕ → Type 0
Found log p i m = (j : ℕ) × (m ≡ i + j) × Stands log p j

shifted : {R : Type 0} (x : Entry R) (xs : List (Entry R)) (p i m : ℕ) → Found xs p (i + 1) m → Found (x ∷ xs) p i m
shifted x xs p i m f = (suc f.0, omega (arith, f.1), record { entry = f.2.entry; here = f.2.here; board = f.2.board })

here_at : {R : Type 0} (x : Entry R) (xs : List (Entry R)) (p i m : ℕ) → x.board ≡ p → m ≡ i → Found (x ∷ xs) p i m
here_at x xs p i m b e = (0, omega (arith, e), record { entry = x; here = refl; board = b })

-- the latest entry of a board is where the search began, or one of the log
latest_or : {R : Type 0} (p k i : ℕ) (xs : List (Entry R)) → (latest_from p k i xs ≡ k) ⊎ Found xs p i (latest_from p k i xs)
latest_or p k i [] = inl refl
latest_or p k i (x ∷ xs) = go (eqb x.board p) refl (latest_or p (cond (eqb x.board p) i k) (i + 1) xs) where
  go : (b : Bool) → eqb x.board p ≡ b
      → (latest_from p (cond b i k) (i + 1) xs ≡ cond b i k) ⊎ Found xs p (i + 1) (latest_from p (cond b i k) (i + 1) xs)
      → (latest_from p (cond b i k) (i + 1) xs ≡ k) ⊎ Found (x ∷ xs) p i (latest_from p (cond b i k) (i + 1) xs)
  go true t (inl e) = inr (here_at x xs p i _ (eqb-true x.board p t) e)
  go false t (inl e) = inl e
  go b t (inr f) = inr (shifted x xs p i _ f)

-- where the board has an entry, it is one of the log
latest_has : {R : Type 0} (p k i : ℕ) (xs : List (Entry R)) (j : ℕ) → Stands xs p j → Found xs p i (latest_from p k i xs)
latest_has p k i [] j s = cc
latest_has p k i (x ∷ xs) zero s =
    let same : x ≡ s.entry = let h = s.here in cc in
    let own : x.board ≡ p = ap (λ (y : Entry _). y.board) same ∙ s.board in
    let start : cond (eqb x.board p) i k ≡ i = cond-true _ _ _ (eq-eqb x.board p own) in
    subst (λ (k' : ℕ). Found (x ∷ xs) p i (latest_from p k' (i + 1) xs)) (sym start)
    (⊎_elim (here_at x xs p i _ own) (shifted x xs p i _) (latest_or p i (i + 1) xs))
latest_has p k i (x ∷ xs) (suc j) s =
    shifted x xs p i _
    (latest_has p (cond (eqb x.board p) i k) (i + 1) xs j (record { entry = s.entry; here = s.here; board = s.board }))

-- followed back, the pointers end at the board's first entry
module _ {R : Type 0} (log : List (Entry R)) (p : ℕ) where
  one_step : (steps i : ℕ) (e : Entry R) → e.board ≡ p → i < suc steps
      → ((j : ℕ) → j < steps → Stands log p j → Ends steps log p j)
      → (kind : EntryKind) → PointsBy kind log e.board i e.back → EndsBy kind (Ends steps log p e.back)
  one_step steps i e own l more kind b = go kind b where
    earlier : (e.back < i) × Stands log e.board e.back → Ends steps log p e.back
    earlier c = more e.back (omega (arith, c.0)) (subst (λ (q : ℕ). Stands log q e.back) own c.1)

    go : (kind : EntryKind) → PointsBy kind log e.board i e.back → EndsBy kind (Ends steps log p e.back)
    go First b = tt
    go Put b = earlier b
    go Keep b = earlier b
    go Discard b = earlier b

  ends_from : (n : ℕ) → Threaded log n → (steps i : ℕ) → i < steps → Stands log p i → Ends steps log p i
  ends_from n t zero i l s = absurd (omega arith)
  ends_from n t (suc steps) i l s = (
    s.entry,
    s.here,
    s.board,
    one_step steps i s.entry s.board l (λ j m q. ends_from n t steps j m q) s.entry.kind (t.points i s.entry s.here),
  )

  pub ends_first : (n i : ℕ) → Threaded log n → Stands log p i → Ends (suc i) log p i
  ends_first n i t s = ends_from n t (suc i) i (omega arith) s

-- one entry more
nth_before : {A : Type 0} (xs : List A) (y x : A) (i : ℕ) → slice_get xs i ≡ Some x → slice_get (xs ++ y ∷ []) i ≡ Some x
nth_before [] y x i e = cc
nth_before (z ∷ zs) y x zero e = e
nth_before (z ∷ zs) y x (suc i) e = nth_before zs y x i e

nth_cases : {A : Type 0} (xs : List A) (y x : A) (i : ℕ) → slice_get (xs ++ y ∷ []) i ≡ Some x
    → (slice_get xs i ≡ Some x) ⊎ ((i ≡ length xs) × (y ≡ x))
nth_cases [] y x zero e = inr (refl, (let same : y ≡ x = cc in same))
nth_cases [] y x (suc i) e = cc
nth_cases (z ∷ zs) y x zero e = inl e
nth_cases (z ∷ zs) y x (suc i) e = ⊎_elim inl (λ b. inr (ap suc b.0, b.1)) (nth_cases zs y x i e)

stands_more : {R : Type 0} (log : List (Entry R)) (e : Entry R) (p i : ℕ) → Stands log p i → Stands (log ++ e ∷ []) p i
stands_more log e p i s = record { entry = s.entry; here = nth_before log e s.entry i s.here; board = s.board }

points_more : {R : Type 0} (log : List (Entry R)) (e : Entry R) (kind : EntryKind) (p i b : ℕ)
    → PointsBy kind log p i b → PointsBy kind (log ++ e ∷ []) p i b
points_more log e First p i b h = h
points_more log e Put p i b h = (h.0, stands_more log e p b h.1)
points_more log e Keep p i b h = (h.0, stands_more log e p b h.1)
points_more log e Discard p i b h = (h.0, stands_more log e p b h.1)

pub threaded_more : {R : Type 0} (log : List (Entry R)) (n : ℕ) (e : Entry R) → Threaded log n
    → PointsBy e.kind log e.board (length log) e.back
    → Threaded (log ++ e ∷ []) n
threaded_more log n e t h = record {
  points = λ i x at. ⊎_elim
      (λ old. points_more log e x.kind x.board i x.back (t.points i x old))
      (λ new. subst (λ (y : Entry _). PointsBy y.kind (log ++ e ∷ []) y.board i y.back) new.1
      (subst (λ (k : ℕ). PointsBy e.kind (log ++ e ∷ []) e.board k e.back) (sym new.0)
      (points_more log e e.kind e.board (length log) e.back h)))
      (nth_cases log e x i at);
  each = λ p l. ((t.each p l).0, stands_more log e p (t.each p l).0 (t.each p l).1);
}

-- where the latest entry of a board stands
pub latest_back : {R : Type 0} (log : List (Entry R)) (n p : ℕ) → Threaded log n → p < n
    → (latest_from p (length log) 0 log < length log) × Stands log p (latest_from p (length log) 0 log)
latest_back log n p t l =
    let f = latest_has p (length log) 0 log (t.each p l).0 (t.each p l).1 in
    let same : f.0 ≡ latest_from p (length log) 0 log = omega (arith, f.1) in
    let s = subst (λ (k : ℕ). Stands log p k) same f.2 in
    (slice_get_within log _ s.entry s.here, s)

pub traced : {R : Type 0} (log : List (Entry R)) (n : ℕ) → Threaded log n → Traced log n
traced log n t = record { threads = t; ends = λ p i s. ends_first log p n i t s }

-- a call's entry, of any kind but first
module _ {R : Type 0} (first : R) (entries : List (Entry R)) (used n p : ℕ) (r : R) where
  log : List (Entry R)
  log = take used entries

  points_by : (kind : EntryKind) → kind ≢ First → (i b : ℕ) → (b < i) × Stands (take used entries) p b
      → PointsBy kind (take used entries) p i b
  points_by First k i b h = absurd (k refl)
  points_by Put k i b h = h
  points_by Keep k i b h = h
  points_by Discard k i b h = h

  pub traced_call : (kind : EntryKind) → kind ≢ First → used < length entries → p < n → Threaded (take used entries) n
      → Traced (take (used + 1) (set entries used (entry_of p kind r (take used entries)))) n
  traced_call kind k room l t =
      let e = entry_of p kind r (take used entries) in
      subst (λ (xs : List (Entry R)). Traced xs n) (sym (take_more_set entries used e room))
      (traced (take used entries ++ e ∷ []) n
      (threaded_more (take used entries) n e t
      (points_by kind k (length (take used entries)) _ (latest_back (take used entries) n p t l))))

-- the entries of a new journal
pub threaded_fresh : {R : Type 0} (first : R) (n : ℕ) → Threaded (fresh_entries first n) n
threaded_fresh first n = record {
  points = λ i e at. ⊎_elim
      (λ l. subst (λ (x : Entry _). PointsBy x.kind (fresh_entries first n) x.board i x.back)
      (same_Some (first_entry first i) e (sym (nth_board (first_entry first) n i l) ∙ at)) refl)
      (λ l. absurd (none-some _ (sym (no_board (first_entry first) n i l) ∙ at)))
      (cases_lt i n);
  each = λ p l. (p, record { entry = first_entry first p; here = nth_board (first_entry first) n p l; board = refl });
}
