-- A list that is written place by place becomes another. Assumes nothing.
use Rattle.std.proofs.Common.{◌≡◌, ℕ, ◌+◌, ◌<◌, ◌≤◌, ◌++◌, List, [], ◌∷◌, length, get_or, set, take, sym, ◌∙◌, take_all}
use Rattle.std.proofs.lemmas.List.{take_more, take_more_set}

module _ {A : Type 0} (ys goal : List A) (i : ℕ) (so_far : take i ys ≡ take i goal) where
  pub filled_more : (y : A) → i < length ys → i < length goal → get_or goal i y ≡ y
      → take (i + 1) (set ys i y) ≡ take (i + 1) goal
  filled_more y l m e = take_more_set ys i y l ∙ (λ j. so_far j ++ sym e j ∷ []) ∙ sym (take_more goal i y m)

  pub filled_all : length ys ≤ i → length goal ≤ i → ys ≡ goal
  filled_all l m = sym (take_all i ys l) ∙ so_far ∙ take_all i goal m
