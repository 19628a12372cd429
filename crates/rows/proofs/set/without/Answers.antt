use Rattle.std.proofs.Common.{arith}
use Rattle.rows.proofs.Bits.{clear}
use Rattle.rows.proofs.set.without.Goals as goal

pub returns-clause-others : goal.returns-clause-others
returns-clause-others c = λ k. clear c.args.bits c.args.board k c.requires (omega arith)
