use Rattle.std.proofs.Common.{◌+◌, ap, ◌∙◌}
use Rattle.journal.specs.Held.{with_entry}
use Rattle.journal.specs.Journals.{journal_meaning, roomy}
use Rattle.journal.proofs.Means.{place_left, end_means}
use Rattle.journal.proofs.memory.Journal.end.Goals as goal

pub append-requires-clause-free : goal.append-requires-clause-free
append-requires-clause-free g c =
    let s = c.args.self.now in
    let p = c.args.board in
    let kept = c.in_ok-kept.ensures in
    place_left g.R.Part.rules.first s.entries.now s.used s.boards p kept.within _ kept.by_log s.room c.if-is_none.ensures

pub append-requires-clause-room : goal.append-requires-clause-room
append-requires-clause-room g c =
    let first = g.R.Part.rules.first in
    let s = c.args.self.now in
    let p = c.args.board in
    let kept = c.in_ok-kept.ensures in
    ap (λ r. roomy first (with_entry s p c.args.kind r) (s.used + 1) s.boards) c.first.ensures
    ∙ (end_means first s.entries.now s.used s.boards p kept.within _ kept.by_log
    first _ c.args.kind c.requires s.room c.if-is_none.ensures).1

pub returns-clause-after : goal.returns-clause-after
returns-clause-after g c =
    let first = g.R.Part.rules.first in
    let s = c.args.self.now in
    let p = c.args.board in
    let kept = c.in_ok-kept.ensures in
    let e = c.append.ensures in
    let memory = e.memory ∙ ap (with_entry s p c.args.kind) c.first.ensures in
    (λ i. journal_meaning first (memory i) (e.numbers.0 i) (e.numbers.1 i))
    ∙ (end_means first s.entries.now s.used s.boards p kept.within _ kept.by_log
    first _ c.args.kind c.requires s.room c.if-is_none.ensures).0
