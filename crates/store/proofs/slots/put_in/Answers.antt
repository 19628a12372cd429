use Rattle.std.proofs.Common.{true, false, refl}
use Rattle.store.specs.Meaning.{putting}
use Rattle.store.specs.Slots.{filled}
use Rattle.store.proofs.Slotted.{kept, pending_set}
use Rattle.store.proofs.slots.put_in.Goals as goal

pub returns-then-slots-place : goal.returns-then-slots-place
returns-then-slots-place g c =
    let at = c.in_ok-place.ensures.place in
    let k = kept c.args.slots.now c.args.board _ at.0 at.1 _ true c.if-slots-place.true in
    record { answer = rw k; after = rw k; memory = rw k }

pub returns : goal.returns
returns g c =
    let at = c.in_ok-place.ensures.place in
    let xs = c.args.slots.now in
    let r = c.args.state in
    let k = kept xs c.args.board _ at.0 at.1 _ false c.if-slots-place.false in
    let set = pending_set xs c.args.board _ at.0 at.1 c.index-slots-place.result (filled true r) (putting r) refl in
    record { answer = rw k; after = rw (k, set); memory = rw (k, at.0) }
