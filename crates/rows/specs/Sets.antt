-- Which boards a set has.
use Rattle.std.specs.Prelude.{ℕ, Bool}
use Rattle.rows.specs.Bits.{has_bit}
use Rattle.rows.specs.declared.set.BoardSet.{BoardSet}

abbrev pub is_in : BoardSet → ℕ → Bool
is_in s k = has_bit s.bits k
