-- The place of a board's latest entry is the one that the definitions find. Assumes nothing.
use Rattle.std.proofs.Common.{◌≡◌, ℕ, zero, suc, ◌+◌, cond, eqb, List, [], ◌∷◌, Some, None, Option, sym, refl, ap, ◌∙◌, arith}
use Rattle.std.specs.Prelude.{MatchOption, unwrap_or}
use Rattle.std.proofs.lemmas.Bool.{cond-true, cond-false, eq-eqb, ne_eqb}
use Rattle.journal.specs.Logs.{NoneOf, LatestAt, latest_from}
use Rattle.journal.specs.declared.entry.Entry.{Entry}

module _ {R : Type 0} (p : ℕ) where
  -- the search goes on from k, the log beginning at place i
  none_from : (log : List (Entry R)) (k i : ℕ) → NoneOf p log → latest_from p k i log ≡ k
  none_from [] k i none = refl
  none_from (x ∷ xs) k i none =
      ap (λ j. latest_from p j (i + 1) xs) (cond-false _ i k (ne_eqb x.board p (none 0)))
      ∙ none_from xs k (i + 1) (λ j. none (suc j))

  found_from : (log : List (Entry R)) (k i j : ℕ) → LatestAt p log j → latest_from p k i log ≡ i + j
  found_from [] k i j found = absurd found.0
  found_from (x ∷ xs) k i zero found =
      ap (λ m. latest_from p m (i + 1) xs) (cond-true _ i k (eq-eqb x.board p found.0))
      ∙ none_from xs i (i + 1) (λ m. found.1 (suc m) (omega arith)) ∙ omega arith
  found_from (x ∷ xs) k i (suc j) found =
      found_from xs (cond (eqb x.board p) i k) (i + 1) j (found.0, λ m l. found.1 (suc m) (omega arith)) ∙ omega arith

  pub latest_is : (log : List (Entry R)) (k : ℕ) (o : Option ℕ) → MatchOption o (NoneOf p log) (LatestAt p log)
      → unwrap_or o k ≡ latest_from p k 0 log
  latest_is log k None none = sym (none_from log k 0 none)
  latest_is log k (Some j) found = let start : 0 + j ≡ j = omega arith in sym (found_from log k 0 j found ∙ start)
