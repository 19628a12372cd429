-- The bytes that a line holds, and the pieces of lines.
use Rattle.std.specs.Prelude.{ℕ, ◌+◌, ◌/◌, ◌%◌, cond, List, [], ◌∷◌, nat_lt}
use Rattle.report.specs.declared.line.Text.{Text}

abbrev pub text : {CAP : ℕ} → Text CAP → List ℕ
text line = line.bytes.bytes

-- a hexadecimal digit, 0 to 9 and a to f
abbrev pub hex_digit : ℕ → ℕ
hex_digit n = cond (nat_lt n 10) (48 + n) (87 + n)

-- 32 bits as 8 such digits, the highest first
abbrev pub hex_of : ℕ → List ℕ
hex_of n =
    hex_digit (n / 0x1000_0000 % 16) ∷ hex_digit (n / 0x100_0000 % 16) ∷ hex_digit (n / 0x10_0000 % 16)
    ∷ hex_digit (n / 0x1_0000 % 16) ∷ hex_digit (n / 0x1000 % 16) ∷ hex_digit (n / 0x100 % 16)
    ∷ hex_digit (n / 0x10 % 16) ∷ hex_digit (n % 16) ∷ []
