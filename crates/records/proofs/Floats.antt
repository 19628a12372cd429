-- Two float literals of the code, as numbers. Assumes nothing.
use Rattle.std.proofs.Common.{◌≡◌, refl}
use lib.Ieee.{binary32, of_bits, of_fields, odd}
use Rattle.records.specs.Feed.{quarter, half}

pub quarter_bits : of_bits binary32 1048576000 ≡ quarter
unfolding of_bits of_fields odd
quarter_bits = refl

pub half_bits : of_bits binary32 1056964608 ≡ half
unfolding of_bits of_fields odd
half_bits = refl
