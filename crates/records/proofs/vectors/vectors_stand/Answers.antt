use Rattle.std.proofs.Common.{refl}
use lib.Ieee.{add, mul, sum, round, units, odd, climb, span, size, of_int, of_bits, of_fields, to_bits}
use lib.Count.{count_trailing_zeros}
use Rattle.records.proofs.vectors.vectors_stand.Goals as goal

pub returns : goal.returns
unfolding add mul sum round units odd climb span size of_int of_bits of_fields to_bits count_trailing_zeros
returns c = record { rotated_in = refl; pulled_up = refl; no_payload = refl; last_pick = refl }
