use Rattle.std.proofs.Common.{arith}
use Rattle.rows.proofs.Bits.{set, set_below}
use Rattle.rows.proofs.set.BoardSet.insert.Goals as goal

pub invariant_of-self : goal.invariant_of-self
invariant_of-self c =
    let s = c.args.self.now in
    record { few = s.few; inside = set_below s.bits c.args.board s.boards s.inside (omega arith) s.few }

pub returns-clause-members : goal.returns-clause-members
returns-clause-members c = λ k. set c.args.self.now.bits c.args.board k (omega arith)
