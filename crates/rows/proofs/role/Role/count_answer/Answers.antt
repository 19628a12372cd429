use Rattle.std.proofs.Common.{◌==◌, ◌&&◌, ◌∙◌}
use Rattle.rows.specs.Bits.{has_bit}
use Rattle.rows.proofs.Bits.{changed_there}
use Rattle.rows.proofs.role.Role.count_answer.Goals as goal

pub returns-clause-after : goal.returns-clause-after
returns-clause-after c =
    let r = c.args.self.now in
    λ i. record {
      phase = r.phase;
      asker = r.asker;
      cohort = has_bit r.cohort;
      awaited = λ q. (c.without-self.ensures.others q ∙ changed_there (has_bit r.awaited q) (q == c.args.from)) i;
      answer = r.answer && c.args.agrees;
    }
