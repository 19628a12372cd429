use Rattle.journal.proofs.Pointers.{traced_call}
use Rattle.journal.proofs.memory.Journal.append.Goals as goal

pub returns-clause-traced : goal.returns-clause-traced
returns-clause-traced g c = λ t.
    let s = c.args.self.now in
    let known = c.requires in
    rw c.back.ensures
    (traced_call g.R.Part.rules.first s.entries.now s.used s.boards c.args.board c.args.state
    c.args.kind known.kind known.free known.within t)
