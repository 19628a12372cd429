use Rattle.std.proofs.Common.{◌-◌, vec_items}
use Rattle.runfile.proofs.Turns.{Halfway}
use Rattle.runfile.proofs.file.rest_of.Given as goal

abbrev pub invariant-loop-turns : goal.invariant-loop-turns
invariant-loop-turns l = Halfway l.initial.reader (vec_items l.turns) l.reader

abbrev pub decreases-loop-turns : goal.decreases-loop-turns
decreases-loop-turns l = 4098 - l.reader.line
