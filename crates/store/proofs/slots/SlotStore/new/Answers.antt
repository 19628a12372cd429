use Rattle.std.proofs.Common.{◌≡◌, ◌*◌, take, drop, ap, ◌∙◌}
use Rattle.std.proofs.lemmas.List.{take_at}
use Rattle.std.proofs.lemmas.Result.{IfOk-weaker}
use Rattle.store.specs.Slots.{slot_meaning, slots_refused, fresh_slots}
use Rattle.store.proofs.Fresh.{length_fresh, pairs_fresh}
use Rattle.store.proofs.slots.SlotStore.new.Goals as goal

pub returns : goal.returns
returns g c =
    let first = g.R.Part.rules.first in
    let n = c.args.boards in
    let past = drop (2 * n) c.args.slots.now in
    let front : take (2 * n) c.prepare.new.slots ≡ fresh_slots first n =
    ap (take (2 * n)) c.in_ok-prepare.ensures.memory ∙ take_at (fresh_slots first n) past (2 * n) (length_fresh first n) in
    let means = ap (λ ks. record { boards = ks; spare = 1 }) (pairs_fresh first n) in
    record {
      answer = c.hold.ensures.answer ∙ ap (λ k. slots_refused k n) c.prepare.auto.slots;
      places = IfOk-weaker c.hold.result _ _ (λ s e. e ∙ front) c.hold.ensures.made;
      fresh = IfOk-weaker c.hold.result _ _ (λ s e. ap slot_meaning (e ∙ front) ∙ means) c.hold.ensures.made;
    }
