use Rattle.lines.proofs.Fields.{Halfway}
use Rattle.lines.proofs.line.fields.Given as goal

abbrev pub invariant-loop-number : goal.invariant-loop-number
invariant-loop-number g l = Halfway g.row.N l.bytes l.number-items l.number-index l.rest
