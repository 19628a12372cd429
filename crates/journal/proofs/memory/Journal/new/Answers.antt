use Rattle.std.proofs.lemmas.Grind.{common_steps}
use Rattle.std.proofs.Common.{◌≤◌, arith, List, length, take, sym, refl, ap, ◌∙◌, subst}
use Rattle.journal.specs.Journals.{journal_meaning, roomy, fresh_entries}
use Rattle.journal.specs.Pointers.{Traced}
use Rattle.journal.specs.declared.entry.Entry.{Entry}
use Rattle.journal.proofs.Fresh.{log_is, fresh_means, fresh_roomy}
use Rattle.journal.proofs.Pointers.{traced, threaded_fresh}
use Rattle.journal.proofs.memory.Journal.new.Goals as goal

pub invariant_of-result : goal.invariant_of-result
invariant_of-result g c =
    let first = g.R.Part.rules.first in
    let entries = c.args.entries.now in
    let n = c.args.boards in
    let done = c.in_ok-prepare.ensures in
    let fits : n ≤ length entries = grind (arith, common_steps, done.answer) in
    record { room = ap (λ es. roomy first es n n) done.memory ∙ fresh_roomy first entries n fits }

pub returns : goal.returns
returns g c =
    let first = g.R.Part.rules.first in
    let entries = c.args.entries.now in
    let n = c.args.boards in
    let done = c.in_ok-prepare.ensures in
    let fits : n ≤ length entries = grind (arith, common_steps, done.answer) in
    let log = ap (take n) done.memory ∙ log_is first entries n in
    record {
      answer = done.answer;
      places = record { memory = done.memory; count = refl; all = refl };
      fresh = ap (λ es. journal_meaning first es n n) done.memory ∙ fresh_means first entries n fits;
      traced =
          subst (λ (xs : List (Entry _)). Traced xs n) (sym log)
          (traced (fresh_entries first n) n (threaded_fresh first n));
    }
