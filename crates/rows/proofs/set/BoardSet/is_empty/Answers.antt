use Rattle.std.proofs.Common.{◌≡◌, arith}
use Rattle.std.proofs.lemmas.Bool.Decides.{nat_tests}
use Rattle.rows.proofs.Bits.{bit_of_none, no_bits}
use Rattle.rows.proofs.set.BoardSet.is_empty.Goals as goal

pub returns : goal.returns
returns c = (
  λ t k. (let z : c.args.self.bits ≡ 0 = grind (arith, nat_tests, t) in rw z (bit_of_none k)),
  λ e. (let z = no_bits c.args.self.bits e in grind (arith, nat_tests, z)),
)
