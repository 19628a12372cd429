-- Sets of boards as bits.
use Rattle.std.specs.Prelude.{ℕ, Bool, ◌==◌}
use Rattle.std.specs.Int.{bit_at}

-- whether bit k of the bits is set
abbrev pub has_bit : ℕ → ℕ → Bool
has_bit bits k = bit_at bits k == 1
