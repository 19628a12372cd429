use Rattle.std.proofs.Common.{◌≡◌, length, take, sym, ap, ◌∙◌, arith}
use Rattle.std.proofs.lemmas.Bool.{leb-true}
use Rattle.std.proofs.lemmas.List.{length-take-le}
use Rattle.journal.specs.Logs.{latest_from}
use Rattle.journal.proofs.Latest.{latest_is}
use Rattle.journal.proofs.memory.Journal.back.Goals as goal

pub returns : goal.returns
returns g c =
    let s = c.args.self.now in
    let p = c.args.board in
    let log = take s.used s.entries.now in
    let fits = leb-true _ _ s.room in
    let long : length log ≡ s.used = length-take-le s.used s.entries.now (omega (arith, fits)) in
    c.unwrap_or.ensures ∙ latest_is p log s.used _ (rw c.log.ensures at c.latest_of.ensures)
    ∙ ap (λ k. latest_from p k 0 log) (sym long)
