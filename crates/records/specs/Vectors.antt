-- Worked examples, as statements about the rules. Numbers above 2^16 are bit patterns.
use Rattle.std.specs.Prelude.{◌≡◌, ℕ}
use Rattle.records.specs.Harness.{harness_rules}
use Rattle.records.specs.Feed.{feed_rules}
use Rattle.records.specs.declared.harness.Harness.{Harness}
use Rattle.records.specs.declared.feed.Feed.{Feed}

abbrev harness : ℕ → ℕ → ℕ → Harness
harness p l s = record { pick = p; lifted = l; sum = s }

abbrev feed : ℕ → ℕ → ℕ → Feed
feed p t l = record { pick = p; tension = t; length = l }

pub record Vectors : Type 0 where
  -- sum 80000000 (hexadecimal) hearing 1 gives 00000011
  pub rotated_in : harness_rules.heard (harness 0 0 0x8000_0000) 0 1 ≡ harness 0 0 0x11
  -- tension 1 hearing 3 gives 3.5
  pub pulled_up : feed_rules.heard (feed 0 0x3f80_0000 0) 0 3 ≡ feed 0 0x4060_0000 0
  -- a NaN loses its payload, in the field that the rule does not step too
  pub no_payload : feed_rules.heard (feed 7 0x7f80_0001 0xffff_ffff) 0 3 ≡ feed 7 0x7fc0_0000 0x7fc0_0000
  -- the pick stays at 999,999
  pub last_pick : harness_rules.worked (harness 999999 0 0) 258 ≡ harness 999999 1 0
