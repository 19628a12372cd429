-- What a number is. Bytes are numbers below 256; a piece of a file is read from the front of a list of
-- bytes, and gives its value and the bytes after it, or nothing.
use Rattle.std.specs.Prelude.{ℕ, ◌+◌, ◌-◌, ◌*◌, ◌^◌, Bool, true, false, cond, not, ◌&&◌, List, [], ◌∷◌, Some, None, Option, ◌==◌, nat_lt}
use Rattle.std.specs.Borrow.{Bor}
use Rattle.std.specs.Char.{is_ascii_digit}

-- a value with what the bytes after it hold
abbrev pub seen : {A : Type 0} → A × Bor (List ℕ) → A × List ℕ
seen x = (x.0, x.1.now)

-- the digits that a list begins with, and what follows them
abbrev pub digits : List ℕ → List ℕ
digits [] = []
digits (c ∷ cs) = cond (is_ascii_digit c) (c ∷ digits cs) []

abbrev pub after_digits : List ℕ → List ℕ
after_digits [] = []
after_digits (c ∷ cs) = cond (is_ascii_digit c) (after_digits cs) (c ∷ cs)

-- what digits write, after a number v
abbrev pub value_from : ℕ → List ℕ → ℕ
value_from v [] = v
value_from v (c ∷ cs) = value_from (v * 10 + (c - 48)) cs

-- what the leading digits write, where that is below 2^32, and what follows them
abbrev pub leading : List ℕ → Option (ℕ × List ℕ)
leading bs = cond (nat_lt (value_from 0 (digits bs)) (2 ^ 32)) (Some (value_from 0 (digits bs), after_digits bs)) None

-- no digit follows a leading 0
abbrev pub plain : List ℕ → Bool
plain [] = false
plain (c ∷ []) = true
plain (c ∷ d ∷ cs) = not (c == 48)

-- a number: digits without a leading zero, below 2^32
abbrev pub is_number : List ℕ → Bool
is_number ds = plain ds && nat_lt (value_from 0 ds) (2 ^ 32)

abbrev pub number : List ℕ → Option (ℕ × List ℕ)
number bs = cond (is_number (digits bs)) (Some (value_from 0 (digits bs), after_digits bs)) None
