use Rattle.std.proofs.Common.{length}
use Rattle.lines.proofs.Numbers.{Reached}
use Rattle.lines.proofs.number.leading_number.Given as goal

abbrev pub invariant-loop-rest : goal.invariant-loop-rest
invariant-loop-rest l = Reached l.bytes l.value l.rest

abbrev pub decreases-loop-rest : goal.decreases-loop-rest
decreases-loop-rest l = length l.rest
