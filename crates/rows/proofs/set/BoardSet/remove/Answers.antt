use Rattle.std.proofs.Common.{arith}
use Rattle.rows.proofs.Bits.{absent}
use Rattle.rows.proofs.set.BoardSet.remove.Goals as goal

pub returns-else-board-self-clause-members : goal.returns-else-board-self-clause-members
returns-else-board-self-clause-members c =
    let s = c.args.self.now in
    λ k. absent s.bits s.boards c.args.board k s.inside (omega arith)
