use Rattle.std.proofs.Common.{rules}
use Rattle.report.specs.Reports.{told}
use Rattle.report.proofs.Room.{board_fits}
use Rattle.report.proofs.Reports.{board_follows}
use Rattle.report.proofs.writer.BoardLines.board.Goals as goal

pub returns-clause-follows : goal.returns-clause-follows
returns-clause-follows g c = board_follows _ _ _ _ _ (search rules) (search rules)

pub returns-clause-fits : goal.returns-clause-fits
returns-clause-fits g c = board_fits _ _ (told c.args.board c.args.state (g.R.Spelled.spelled c.args.of)) _ (search rules)
