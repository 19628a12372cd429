use Rattle.std.proofs.Common.{◌≡◌, ◌*◌, take}
use Rattle.store.specs.Slots.{fresh_slots}
use Rattle.store.proofs.slots.prepare.Given as goal

abbrev pub invariant-loop-board : goal.invariant-loop-board
invariant-loop-board g l = take (2 * l.board) l.places ≡ take (2 * l.board) (fresh_slots g.R.Part.rules.first l.boards)
