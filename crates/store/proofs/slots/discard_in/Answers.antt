use Rattle.std.proofs.Common.{◌+◌, true, false, set, ap, ◌∙◌, refl}
use Rattle.std.proofs.lemmas.List.{set-get_or}
use Rattle.std.proofs.lemmas.Result.{err_from_is_err_and}
use Rattle.store.proofs.Slotted.{kept, pending_set}
use Rattle.store.specs.Meaning.{discarding}
use Rattle.store.specs.Slots.{filled}
use Rattle.store.proofs.slots.discard_in.Goals as goal

pub returns-in_err-discard : goal.returns-in_err-discard
returns-in_err-discard g c =
    let xs = c.args.slots.now in
    let at = c.in_ok-place.ensures.place in
    let free = c.in_err-discard.ensures.free in
    let k = kept xs c.args.board _ at.0 at.1 _ false free.1 in
    let why = err_from_is_err_and c.from_residual-in_err-discard.result c.from_residual-in_err-discard.ensures.1 in
    let same = ap (set xs (c.in_ok-place.place + 1)) free.2 ∙ set-get_or xs (c.in_ok-place.place + 1) _ in
    record { answer = rw (why.1, why.2, free.0, k); after = rw (same, k); memory = rw (same, k) }

pub returns : goal.returns
returns g c =
    let xs = c.args.slots.now in
    let at = c.in_ok-place.ensures.place in
    let emptied = c.in_ok-discard.ensures.emptied in
    let k = kept xs c.args.board _ at.0 at.1 _ true emptied.0 in
    let d = c.index-slots-place.result in
    let set = pending_set xs c.args.board _ at.0 at.1 d (filled false g.R.Part.rules.first) discarding refl in
    record { answer = rw k; after = rw (emptied.1, k, set); memory = rw (emptied.1, k, at.0) }
