-- The pick number of a record.
use Rattle.std.specs.Prelude.{ℕ, ◌+◌, min}

-- one more, up to 999,999
abbrev pub picked : ℕ → ℕ
picked n = min (n + 1) 999999
