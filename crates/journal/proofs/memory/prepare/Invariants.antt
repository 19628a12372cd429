use Rattle.std.proofs.Common.{◌≡◌, take}
use Rattle.journal.specs.Journals.{fresh_entries}
use Rattle.journal.proofs.memory.prepare.Given as goal

abbrev pub invariant-loop-board : goal.invariant-loop-board
invariant-loop-board g l = take l.board l.entry-items ≡ take l.board (fresh_entries g.R.Part.rules.first l.boards)
