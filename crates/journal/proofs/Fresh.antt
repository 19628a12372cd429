-- The entries of a new journal. Assumes nothing.
use Rattle.std.proofs.Common.{◌≡◌, ℕ, zero, suc, ◌+◌, ◌-◌, ◌/◌, ◌≤◌, Bool, true, false, cond, ◌||◌, eqb, ltb, List, ◌∷◌, ◌++◌, map, length, take, drop, replicate, Some, None, fold, sum_by, refl, ap, ◌∙◌, arith}
use Rattle.std.specs.List.{range_with_len}
use Rattle.std.proofs.lemmas.List.FromFn.{length-map-range_with_len}
use Rattle.std.proofs.lemmas.List.{take_at, length-append, length-drop}
use Rattle.std.proofs.lemmas.List.Folds.{sum_by-replicate}
use Rattle.std.proofs.lemmas.Bool.{cond-true, le-leb, ltb-false}
use Rattle.store.specs.Meaning.{Kept, fresh_meaning}
use Rattle.store.specs.declared.refusal.MakeRefusal.TheVariants.{BadCount, BadRoom}
use Rattle.journal.specs.Logs.{told, kept_of, pending_one}
use Rattle.journal.specs.Journals.{pendings, roomy, kept_at, journal_meaning, first_entry, fresh_entries, journal_refused}
use Rattle.journal.specs.declared.entry.Entry.{Entry}

-- a log of first entries keeps the first record standing, and none pending
abbrev pub nothing : {R : Type 0} → R → Kept R
nothing first = record { standing = first; pending = None }

told-first : {R : Type 0} (first : R) (p q : ℕ) → told p (nothing first) (first_entry first q) ≡ nothing first
told-first first p q = go (eqb q p) where
  go : (b : Bool) → cond b (nothing first) (nothing first) ≡ nothing first
  go true = refl
  go false = refl

kept_from : {R : Type 0} (first : R) (a n p : ℕ)
    → fold (told p) (nothing first) (map (first_entry first) (range_with_len a n)) ≡ nothing first
kept_from first a zero p = refl
kept_from first a (suc n) p =
    ap (λ k. fold (told p) k (map (first_entry first) (range_with_len (a + 1) n))) (told-first first p a)
    ∙ kept_from first (a + 1) n p

module _ {R : Type 0} (first : R) (xs : List (Entry R)) (n : ℕ) where
  pub log_is : take n (fresh_entries first n ++ drop n xs) ≡ fresh_entries first n
  log_is = take_at (fresh_entries first n) (drop n xs) n (length-map-range_with_len (first_entry first) 0 n)

  kept_is : (p : ℕ) → kept_of first (take n (fresh_entries first n ++ drop n xs)) p ≡ nothing first
  kept_is p = ap (λ log. kept_of first log p) log_is ∙ kept_from first 0 n p

  all_from : (f : ℕ → Kept R) → ((p : ℕ) → f p ≡ nothing first) → (a m : ℕ)
      → map f (range_with_len a m) ≡ replicate m (nothing first)
  all_from f e a zero = refl
  all_from f e a (suc m) = λ i. e a i ∷ all_from f e (a + 1) m i

  -- nothing is pending
  none_pending : pendings first (fresh_entries first n ++ drop n xs) n n ≡ 0
  none_pending =
      ap (sum_by pending_one) (all_from (kept_of first (take n (fresh_entries first n ++ drop n xs))) kept_is 0 n)
      ∙ sum_by-replicate pending_one n (nothing first) ∙ omega arith

  same_places : n ≤ length xs → length (fresh_entries first n ++ drop n xs) ≡ length xs
  same_places h =
      length-append (fresh_entries first n) (drop n xs)
      ∙ (λ i. length-map-range_with_len (first_entry first) 0 n i + length-drop n xs i) ∙ omega arith

  pub fresh_roomy : n ≤ length xs → roomy first (fresh_entries first n ++ drop n xs) n n ≡ true
  fresh_roomy h = let long = same_places h in le-leb _ _ (omega (arith, none_pending, long))

  -- a new journal means the first record standing everywhere, none pending, and a spare of half the places left
  pub fresh_means : n ≤ length xs → journal_meaning first (fresh_entries first n ++ drop n xs) n n
      ≡ fresh_meaning first ((length xs - n) / 2) n
  fresh_means h =
      let entries = fresh_entries first n ++ drop n xs in
      let long = same_places h in
      let room = fresh_roomy h in
      let half : (length entries - n - pendings first entries n n) / 2 ≡ (length xs - n) / 2 =
      ap (λ j. j / 2) (omega (arith, none_pending, long)) in
      λ i. record {
        boards = all_from (kept_at first entries n n) (λ p. cond-true _ _ _ room ∙ kept_is p) 0 n i;
        spare = half i;
      }

-- a journal that is made has a place for each board
room_refused : (a b c : Bool) → None ≡ cond a (Some BadCount) (cond (b || c) (Some BadRoom) None) → b ≡ false
room_refused true b c e = absurd (let z : ◌≡◌ {A = ℕ} 0 1 = cc in omega arith)
room_refused false true c e = absurd (let z : ◌≡◌ {A = ℕ} 0 1 = cc in omega arith)
room_refused false false c e = refl

pub made-fits : (places n : ℕ) → None ≡ journal_refused places n → n ≤ places
made-fits places n e = ltb-false places n (room_refused (eqb n 0 || ltb 64 n) (ltb places n) (ltb 1024 places) e)
