use Rattle.std.proofs.Common.{◌≡◌, ◌+◌, ◌*◌, ◌≤◌, ◌++◌, true, false, length, set, take, drop, sym, ap, ◌∙◌, arith}
use Rattle.std.proofs.lemmas.List.{length-set, length-take-le}
use Rattle.std.proofs.lemmas.Grind.{common_steps}
use Rattle.store.specs.Slots.{filled, fresh_slots}
use Rattle.store.proofs.Fresh.{length_fresh, fresh_standing, fresh_pending}
use Rattle.store.proofs.Filled.{filled_more, filled_all}
use Rattle.store.proofs.slots.prepare.Goals as goal

pub loop-board-preserved : goal.loop-board-preserved
loop-board-preserved g c =
    let first = g.R.Part.rules.first in
    let b = c.loop-board.board in
    let n = c.args.boards in
    let xs = c.args.slots.now in
    let ys = c.loop-board.places in
    let room : 2 * n ≤ length xs = grind (arith, common_steps) in
    let long : length ys ≡ 2 * n = c.loop-board.auto.places ∙ length-take-le (2 * n) xs room in
    let size = length_fresh first n in
    let test = c.loop-board-test.true in
    let standing = filled true c.first.result in
    let pending = filled false c.first-in-loop-board.result in
    let same = length-set ys (2 * b) standing in
    let half = filled_more ys (fresh_slots first n) (2 * b) c.loop-board.invariant standing
    (omega (arith, long, test)) (omega (arith, size, test))
    (fresh_standing first n b standing test ∙ ap (filled true) (sym c.first.ensures)) in
    let whole = filled_more (set ys (2 * b) standing) (fresh_slots first n) (2 * b + 1) half pending
    (omega (arith, long, test, same)) (omega (arith, size, test))
    (fresh_pending first n b pending test ∙ ap (filled false) (sym c.first-in-loop-board.ensures)) in
    let next : 2 * b + 1 + 1 ≡ 2 * (b + 1) = omega arith in
    (λ i. take (sym next i) (set (set ys (2 * b) standing) (2 * b + 1) pending)) ∙ whole ∙ (λ i. take (next i) (fresh_slots first n))

pub returns-clause-memory : goal.returns-clause-memory
returns-clause-memory g c =
    let first = g.R.Part.rules.first in
    let n = c.args.boards in
    let xs = c.args.slots.now in
    let room : 2 * n ≤ length xs = grind (arith, common_steps) in
    let long : length c.loop-board.places ≡ 2 * n = c.loop-board.auto.places ∙ length-take-le (2 * n) xs room in
    let done = c.loop-board-test.false in
    ap (λ ys. ys ++ drop (2 * n) xs)
    (filled_all c.loop-board.places (fresh_slots first n) (2 * c.loop-board.board) c.loop-board.invariant
    (omega (arith, long, done)) (omega (arith, length_fresh first n, done)))
