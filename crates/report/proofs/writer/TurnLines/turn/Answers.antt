use Rattle.std.proofs.Common.{rules}
use Rattle.report.proofs.Room.{turn_fits}
use Rattle.report.proofs.Reports.{turn_follows}
use Rattle.report.proofs.writer.TurnLines.turn.Goals as goal

pub returns-clause-follows : goal.returns-clause-follows
returns-clause-follows c = turn_follows _ _ _ _ _ (search rules) (search rules)

pub returns-clause-fits : goal.returns-clause-fits
returns-clause-fits c = turn_fits _ _ (record { number = c.args.answer; kind = c.args.kind }) _ (search rules)
