-- The rules of a harness board's record.
use Rattle.std.specs.Prelude.{ℕ, ◌-◌, ◌*◌, ◌/◌, ◌%◌, ◌^◌, bit_or, bit_xor}
use Rattle.records.specs.Rules.{Rules}
use Rattle.records.specs.Picks.{picked}
use Rattle.records.specs.declared.harness.Harness.{Harness}

-- the 32 bits of n moved k places to the left, those that fall off coming in from the right
abbrev pub rotated : ℕ → ℕ → ℕ
rotated k n = bit_or ((n * 2 ^ k) % 2 ^ 32) (n / 2 ^ (32 - k))

-- the sum rotated by k places, and then exclusive-or the word
abbrev pub summed : ℕ → Harness → ℕ → Harness
summed k r w = record { pick = r.pick; lifted = r.lifted; sum = bit_xor (rotated k r.sum) w }

abbrev pub harness_rules : Rules Harness
harness_rules = record {
  first = record { pick = 0; lifted = 0; sum = 0 };
  worked = λ r w. record { pick = picked r.pick; lifted = w % 257; sum = r.sum };
  sent = λ r q w. summed 3 r w;
  heard = λ r q w. summed 5 r w;
}
