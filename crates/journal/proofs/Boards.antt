-- The list of all boards, by a function of the board. Assumes nothing.
use Rattle.std.proofs.Common.{◌≡◌, ℕ, zero, suc, ◌+◌, ◌<◌, ◌≤◌, List, ◌∷◌, map, get_or, Some, None, sum_by, sym, refl, ap, ◌∙◌, arith}
use Rattle.std.specs.List.{slice_get, range_with_len}
use Rattle.std.proofs.lemmas.List.Sums.{sum_by-set, get_or-le-sum_by}
use Rattle.std.proofs.lemmas.List.FromFn.{length-map-range_with_len, get_or-map-range_with_len}
use Rattle.std.proofs.lemmas.Option.{slice_get-get_or, slice_get_past, slice_get_within, get_or_from_slice_get}
use Rattle.store.proofs.Pairs.{updated_at}
use Rattle.store.specs.Meaning.{updated}

module _ {A : Type 0} where
  pub nth_board : (f : ℕ → A) (n p : ℕ) → p < n → slice_get (map f (range_with_len 0 n)) p ≡ Some (f p)
  nth_board f n p h =
      slice_get-get_or (map f (range_with_len 0 n)) p (f p) (omega (arith, length-map-range_with_len f 0 n))
      ∙ ap (λ x. Some x) (get_or-map-range_with_len f 0 n p p (f p) h (omega arith))

  pub no_board : (f : ℕ → A) (n p : ℕ) → n ≤ p → slice_get (map f (range_with_len 0 n)) p ≡ None
  no_board f n p h = slice_get_past (map f (range_with_len 0 n)) p (omega (arith, length-map-range_with_len f 0 n))

  map_same : (f h : ℕ → A) (a n : ℕ) → ((q : ℕ) → a ≤ q → h q ≡ f q) → map h (range_with_len a n) ≡ map f (range_with_len a n)
  map_same f h a zero same = refl
  map_same f h a (suc n) same = λ i. same a (omega arith) i ∷ map_same f h (a + 1) n (λ q l. same q (omega arith)) i

  updated_from : (f h : ℕ → A) (g : A → A) (a n p q : ℕ) → a + p ≡ q → ((k : ℕ) → (k ≡ q → ⊥) → h k ≡ f k) → h q ≡ g (f q)
      → map h (range_with_len a n) ≡ updated g (map f (range_with_len a n)) p
  updated_from f h g a zero p q e other here = refl
  updated_from f h g a (suc n) zero q e other here =
      let same : a ≡ q = omega arith in
      λ i. (ap h same ∙ here ∙ ap (λ k. g (f k)) (sym same)) i ∷ map_same f h (a + 1) n (λ k l. other k (λ z. omega arith)) i
  updated_from f h g a (suc n) (suc p) q e other here =
      λ i. other a (λ z. omega arith) i ∷ updated_from f h g (a + 1) n p q (omega arith) other here i

  -- one board changed, the others as they were
  pub updated_board : (f h : ℕ → A) (g : A → A) (n p : ℕ) → ((k : ℕ) → (k ≡ p → ⊥) → h k ≡ f k) → h p ≡ g (f p)
      → map h (range_with_len 0 n) ≡ updated g (map f (range_with_len 0 n)) p
  updated_board f h g n p other here = updated_from f h g 0 n p p (omega arith) other here

  -- a sum over all boards, after a change of one
  pub sum-updated : (w : A → ℕ) (g : A → A) (xs : List A) (p : ℕ) (x : A) → slice_get xs p ≡ Some x
      → sum_by w (updated g xs p) + w x ≡ sum_by w xs + w (g x)
  sum-updated w g xs p x e =
      let own : get_or xs p x ≡ x = get_or_from_slice_get xs p x x e in
      (λ i. sum_by w (updated_at g xs p x e i) + w (sym own i)) ∙ sum_by-set w xs p (g x) x (slice_get_within xs p x e)

  -- one board's share of a sum
  pub sum_has : (w : A → ℕ) (xs : List A) (p : ℕ) (x : A) → slice_get xs p ≡ Some x → w x ≤ sum_by w xs
  sum_has w xs p x e =
      let own : get_or xs p x ≡ x = get_or_from_slice_get xs p x x e in
      omega (arith, ap w own, get_or-le-sum_by w xs p x (slice_get_within xs p x e))
