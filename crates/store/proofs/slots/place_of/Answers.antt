use Rattle.std.proofs.Common.{refl}
use Rattle.store.proofs.Pairs.{no_board}
use Rattle.store.proofs.slots.place_of.Goals as goal

pub returns-else-board-slots-clause-none : goal.returns-else-board-slots-clause-none
returns-else-board-slots-clause-none g c = (refl, no_board _ _ c.if-board-slots.false)
