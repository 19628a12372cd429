use Rattle.std.proofs.Common.{arith}
use Rattle.std.proofs.lemmas.Grind.{common_steps}
use Rattle.rows.proofs.Bits.{past}
use Rattle.rows.proofs.set.BoardSet.contains.Goals as goal

pub returns-else-board-self : goal.returns-else-board-self
returns-else-board-self c = let p = past c.args.self.bits c.args.self.boards c.args.board c.args.self.inside (omega arith) in grind (arith, common_steps, p)
