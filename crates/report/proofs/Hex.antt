-- The digits that the hex crate gives for a number's bytes. Assumes nothing.
use Rattle.std.proofs.Common.{◌≡◌, ℕ, ◌/◌, ◌%◌, ◌<◌, List, [], ◌∷◌, slice_index, map, w32, ap, ◌∙◌, arith}
use Rattle.std.specs.Int.{to_be_bytes}
use Rattle.std.specs.Char.{to_ascii_lowercase}
use Rattle.std.specs.Str.{IsAscii, IsUtf8, str_to_ascii_lowercase}
use Rattle.std.proofs.lemmas.Bool.Decides.{nat_tests}
use Rattle.std.proofs.lemmas.List.FromFn.{get_or-map-range_with_len}
use Rattle.std.proofs.lemmas.Str.{IsUtf8-from_ascii}
use Rattle.std.proofs.lemmas.Str.Ascii.{IsAscii-nil, IsAscii-cons}
use Rattle.hex.specs.Hex.{encode_with, encode_lower, lower_digits}
use Rattle.report.specs.Texts.{hex_digit, hex_of}

lower_digit : (d : ℕ) → d < 16 → slice_index lower_digits d ≡ hex_digit d
lower_digit d h = get_or-map-range_with_len hex_digit 0 16 d d 0 h (omega arith)

byte_digits : (m : ℕ) (rest : List ℕ)
    → encode_lower (m % 256 ∷ rest) ≡ hex_digit (m / 16 % 16) ∷ hex_digit (m % 16) ∷ encode_lower rest
unfolding encode_with
byte_digits m rest =
    let high : m % 256 / 16 ≡ m / 16 % 16 = omega arith in
    let low : m % 256 % 16 ≡ m % 16 = omega arith in
    rw (high, low, lower_digit (m / 16 % 16) (omega arith), lower_digit (m % 16) (omega arith))

pub hex_bytes : (n : ℕ) → encode_lower (to_be_bytes w32 n) ≡ hex_of n
unfolding encode_with
hex_bytes n =
    let third : n / 0x100_0000 / 16 ≡ n / 0x1000_0000 = omega arith in
    let second : n / 0x1_0000 / 16 ≡ n / 0x10_0000 = omega arith in
    let first : n / 0x100 / 16 ≡ n / 0x1000 = omega arith in
    rw (byte_digits (n / 0x100_0000), byte_digits (n / 0x1_0000), byte_digits (n / 0x100), byte_digits n)
    (rw (third, second, first))

lower_one : (d : ℕ) → d < 16 → to_ascii_lowercase (hex_digit d) ≡ hex_digit d
lower_one d h = grind (arith, nat_tests)

lower_hex : (n : ℕ) → str_to_ascii_lowercase (hex_of n) ≡ hex_of n
lower_hex n = λ i.
    lower_one (n / 0x1000_0000 % 16) (omega arith) i ∷ lower_one (n / 0x100_0000 % 16) (omega arith) i
    ∷ lower_one (n / 0x10_0000 % 16) (omega arith) i ∷ lower_one (n / 0x1_0000 % 16) (omega arith) i
    ∷ lower_one (n / 0x1000 % 16) (omega arith) i ∷ lower_one (n / 0x100 % 16) (omega arith) i
    ∷ lower_one (n / 0x10 % 16) (omega arith) i ∷ lower_one (n % 16) (omega arith) i ∷ []

-- the digits have small letters, and so stay as they are where letters are made small
pub small_letters : (n : ℕ) → str_to_ascii_lowercase (encode_lower (to_be_bytes w32 n)) ≡ hex_of n
small_letters n = ap str_to_ascii_lowercase (hex_bytes n) ∙ lower_hex n

abbrev last_digit : ℕ → ℕ
last_digit n = hex_digit (n % 16)

digits_ascii : (ns : List ℕ) → IsAscii (map last_digit ns)
digits_ascii [] = IsAscii-nil
digits_ascii (n ∷ ns) = IsAscii-cons (last_digit n) (map last_digit ns) (grind (arith, nat_tests)) (digits_ascii ns)

pub hex_utf8 : (n : ℕ) → IsUtf8 (hex_of n)
hex_utf8 n =
    IsUtf8-from_ascii (hex_of n)
    (digits_ascii
    (n / 0x1000_0000 ∷ n / 0x100_0000 ∷ n / 0x10_0000 ∷ n / 0x1_0000 ∷ n / 0x1000 ∷ n / 0x100 ∷ n / 0x10 ∷ n ∷ []))
