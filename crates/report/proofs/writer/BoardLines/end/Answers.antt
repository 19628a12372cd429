use Rattle.std.proofs.Common.{rules}
use Rattle.report.proofs.Room.{end_fits}
use Rattle.report.proofs.Reports.{end_follows}
use Rattle.report.proofs.writer.BoardLines.end.Goals as goal

pub returns-clause-follows : goal.returns-clause-follows
returns-clause-follows c = end_follows _ _ _ _ (search rules) (search rules)

pub returns-clause-fits : goal.returns-clause-fits
returns-clause-fits c = end_fits _ _ _ (search rules)
