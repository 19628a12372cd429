-- Tables: functions from a board's number.
use Rattle.std.specs.Prelude.{ℕ, cond, ◌==◌}

-- a table with another value at one place
abbrev pub changed : {A : Type 0} → (ℕ → A) → ℕ → A → ℕ → A
changed f p v i = cond (i == p) v (f i)
