use Rattle.std.proofs.Common.{sym}
use Rattle.std.proofs.lemmas.List.FromFn.{length-map-range_with_len}
use Rattle.journal.specs.Journals.{kept_at}
use Rattle.journal.proofs.memory.JournalStore.boards.Goals as goal

pub returns : goal.returns
returns g c =
    let s = c.args.self.now in
    sym (length-map-range_with_len (kept_at g.R.Part.rules.first s.entries.now s.used s.boards) 0 s.boards)
