-- Worked examples of the spare, as statements about the definitions: a journal of 40 places for 2 boards.
use Rattle.std.specs.Prelude.{◌≡◌, ℕ, ◌-◌, ◌/◌}
use Rattle.store.specs.Meaning.{Meaning, fresh_meaning, put_after, keep_after}

abbrev made : Meaning ℕ
made = fresh_meaning 0 ((40 - 2) / 2) 2

abbrev put : Meaning ℕ
put = put_after 1 made 0 7

pub record Vectors : Type 0 where
  -- new: 19
  pub new : made.spare ≡ 19
  -- after a put: 18
  pub after_put : put.spare ≡ 18
  -- after keep: 18
  pub after_keep : (keep_after put 0).spare ≡ 18
