use Rattle.std.proofs.Common.{rules, ◌≡◌, ap, ◌∙◌, replicate}
use Rattle.rows.specs.Marked.{marks_by, no_mark}
use Rattle.rows.proofs.Marked.{fresh}
use Rattle.rows.proofs.marks.Marks.new.Goals as goal

pub returns : goal.returns
returns c = let e : c.default.result ≡ no_mark = search rules in ap (λ m. marks_by (replicate 19 m)) e ∙ fresh 19
