use Rattle.std.proofs.Common.{◌<◌, ◌≤◌, ◌++◌, length, drop, sym, ap, ◌∙◌, arith}
use Rattle.std.proofs.lemmas.Grind.{common_steps}
use Rattle.std.proofs.lemmas.List.{length-take, length-take-le}
use Rattle.std.proofs.lemmas.List.FromFn.{get_or-map-range_with_len, length-map-range_with_len}
use Rattle.store.proofs.Filled.{filled_more, filled_all}
use Rattle.journal.specs.Journals.{first_entry, fresh_entries}
use Rattle.journal.proofs.memory.prepare.Goals as goal

pub loop-board-preserved : goal.loop-board-preserved
loop-board-preserved g c =
    let first = g.R.Part.rules.first in
    let i = c.loop-board.board in
    let n = c.args.boards in
    let within : i < n = omega (arith, length-take n c.args.entries.now) in
    filled_more c.loop-board.entry-items (fresh_entries first n) i c.loop-board.invariant _
    (omega arith) (omega (arith, length-map-range_with_len (first_entry first) 0 n))
    (get_or-map-range_with_len (first_entry first) 0 n i i _ within (omega arith)
    ∙ ap (λ r. first_entry r i) (sym c.first.ensures))

pub returns-clause-memory : goal.returns-clause-memory
returns-clause-memory g c =
    let first = g.R.Part.rules.first in
    let n = c.args.boards in
    let xs = c.args.entries.now in
    let room : n ≤ length xs = grind (arith, common_steps) in
    let long = length-take-le n xs room in
    ap (λ ys. ys ++ drop n xs)
    (filled_all c.loop-board.entry-items (fresh_entries first n) c.loop-board.board c.loop-board.invariant
    (omega (arith, long)) (omega (arith, long, length-map-range_with_len (first_entry first) 0 n)))
