use Rattle.std.proofs.Common.{ℕ, List, ◌++◌, codes, decimal, sym, ap, ◌∙◌, append_assoc}
use Rattle.std.proofs.lemmas.Result.{IfOk-weaker}
use Rattle.lines.specs.Names.{part_name, store_name}
use Rattle.runner.proofs.summary_line.Goals as goal

pub returns-in-Journal : goal.returns-in-Journal
returns-in-Journal c =
    let places = c.in-Journal.places in
    let turns : List ℕ = codes " records, " ++ (decimal c.args.turns ++ codes " turns\n") in
    let boards : List ℕ = decimal c.args.loom.boards in
    let part : List ℕ = part_name c.args.loom.part in
    IfOk-weaker c.format-in-Journal.result _ _
    (λ s e. e
    ∙ (λ i. boards ++ (codes " boards, journal of " ++ (decimal places ++ (codes " places, " ++ (c.name-part.ensures i ++ turns)))))
    ∙ ap (λ xs. boards ++ (codes " boards, journal of " ++ xs))
    (sym (append_assoc (decimal places) (codes " places") (codes ", " ++ (part ++ turns))))
    ∙ (λ i. boards ++ (codes " boards, " ++ (store_name (sym c.in-Journal.is i) ++ (codes ", " ++ (part ++ turns))))))
    c.format-in-Journal.ensures.ok
