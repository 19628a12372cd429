use Rattle.std.proofs.Common.{◌≡◌, ◌≢◌, ◌+◌, true, false, set, Some, ap, ◌∙◌, arith}
use Rattle.std.specs.List.{slice_get}
use Rattle.std.proofs.lemmas.List.{set-get_or, set_comm}
use Rattle.std.proofs.lemmas.Option.{slice_get-get_or}
use Rattle.std.proofs.lemmas.Result.{err_from_is_err_and}
use Rattle.store.proofs.Slotted.{kept, both_set}
use Rattle.store.specs.Meaning.{keeping}
use Rattle.store.specs.Slots.{filled}
use Rattle.store.specs.declared.slots.Slot.{Slot}
use Rattle.store.proofs.slots.keep_in.Goals as goal

pub returns-in_err-state : goal.returns-in_err-state
returns-in_err-state g c =
    let xs = c.args.slots.now in
    let at = c.in_ok-place.ensures.place in
    let free = c.in_err-state.ensures.free in
    let k = kept xs c.args.board _ at.0 at.1 _ false free.1 in
    let why = err_from_is_err_and c.from_residual-in_err-state.result c.from_residual-in_err-state.ensures.1 in
    let same = ap (set xs (c.in_ok-place.place + 1)) free.2 ∙ set-get_or xs (c.in_ok-place.place + 1) _ in
    record { answer = rw (why.1, why.2, free.0, k); after = rw (same, k); memory = rw (same, k) }

pub returns : goal.returns
returns g c =
    let xs = c.args.slots.now in
    let at = c.in_ok-place.ensures.place in
    let taken = c.in_ok-state.ensures.taken in
    let first = g.R.Part.rules.first in
    let r = c.in_ok-state.state in
    let i = c.in_ok-place.place in
    let d = c.index-slots-place.result in
    let k = kept xs c.args.board _ at.0 at.1 _ true (ap (λ (s : Slot _). s.taken) taken.0) in
    let both = both_set xs c.args.board _ at.0 at.1 d (filled true r) (filled false first) keeping (rw taken.0) in
    let apart : i + 1 ≢ i = λ z. absurd (omega (arith, z)) in
    let held : slice_get xs (i + 1) ≡ Some (filled true r) =
    slice_get-get_or xs (i + 1) d at.1 ∙ ap (λ (s : Slot _). Some s) taken.0 in
    record {
      answer = rw k;
      after = rw (taken.1, k, both);
      memory = rw (taken.1, k, ← at.0, held) (set_comm xs (i + 1) i (filled false first) (filled true r) apart);
    }
