use Rattle.std.proofs.Common.{rules, refl, arith}
use Rattle.rows.specs.Marked.{no_mark}
use Rattle.rows.specs.Notes.{set_aside}
use Rattle.rows.proofs.Marked.{all_changed}
use Rattle.rows.proofs.marks.Marks.set_aside.Goals as goal

pub returns : goal.returns
returns c =
    all_changed set_aside c.args.self.now.of c.map-self.result 19 refl (omega arith) c.map-self.ensures.items.long
    (λ i l. (let k = c.map-self.ensures.items.at i no_mark no_mark l in search rules))
