use Rattle.std.proofs.Common.{◌≡◌, sym, ◌∙◌}
use Rattle.journal.specs.Held.{meaning_of}
use Rattle.journal.specs.Journals.{journal_meaning}
use Rattle.journal.proofs.Means.{put_means}
use Rattle.journal.proofs.memory.JournalStore.put.Goals as goal

pub append-requires-clause-room : goal.append-requires-clause-room
append-requires-clause-room g c =
    let s = c.args.self.now in
    let kept = c.in_ok-kept.ensures in
    let left = λ (z : (meaning_of s).spare ≡ 0). c.if-spare-eq0.false (c.spare.ensures ∙ z) in
    (put_means g.R.Part.rules.first s.entries.now s.used s.boards c.args.board kept.within _ kept.by_log
    c.args.state _ (sym c.if-is_some.ensures) left).1

pub returns-clause-after : goal.returns-clause-after
returns-clause-after g c =
    let first = g.R.Part.rules.first in
    let s = c.args.self.now in
    let kept = c.in_ok-kept.ensures in
    let left = λ (z : (meaning_of s).spare ≡ 0). c.if-spare-eq0.false (c.spare.ensures ∙ z) in
    let e = c.append.ensures in
    (λ i. journal_meaning first (e.memory i) (e.numbers.0 i) (e.numbers.1 i))
    ∙ (put_means first s.entries.now s.used s.boards c.args.board kept.within _ kept.by_log
    c.args.state _ (sym c.if-is_some.ensures) left).0
