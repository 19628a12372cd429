use Rattle.std.proofs.Common.{◌≡◌, cond, arith, ◌∙◌}
use Rattle.std.proofs.Math.ListN.{set}
use Rattle.rows.specs.Marked.{mark_at}
use Rattle.rows.specs.Notes.{said}
use Rattle.rows.proofs.Marked.{noted_said}
use Rattle.rows.proofs.marks.Marks.sent.Goals as goal

pub returns-clause-after : goal.returns-clause-after
returns-clause-after c =
    let xs = c.args.self.now.of in
    let m : c.sent-mark.result ≡ said c.args.label (mark_at xs c.args.to) = cc in
    noted_said xs c.note.new.self.of c.args.to c.args.label 19 c.note.result c.note.ensures.answer (omega arith)
    (c.note.ensures.after ∙ (λ i. cond c.note.result (set xs c.args.to (m i)) xs))
