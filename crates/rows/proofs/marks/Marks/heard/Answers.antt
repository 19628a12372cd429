use Rattle.std.proofs.Common.{◌≡◌, cond, arith, ◌∙◌}
use Rattle.std.proofs.Math.ListN.{set}
use Rattle.rows.specs.Marked.{mark_at}
use Rattle.rows.specs.Notes.{told}
use Rattle.rows.proofs.Marked.{noted_told}
use Rattle.rows.proofs.marks.Marks.heard.Goals as goal

pub returns-clause-after : goal.returns-clause-after
returns-clause-after c =
    let xs = c.args.self.now.of in
    let m : c.heard-mark.result ≡ told c.args.label (mark_at xs c.args.from) = cc in
    noted_told xs c.note.new.self.of c.args.from c.args.label 19 c.note.result c.note.ensures.answer (omega arith)
    (c.note.ensures.after ∙ (λ i. cond c.note.result (set xs c.args.from (m i)) xs))
