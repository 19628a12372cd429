-- What is written for a run file.
use Rattle.std.specs.Prelude.{ℕ, List, ◌++◌, length, Ok, Err, codes, decimal, Result}
use Rattle.turns.specs.declared.turn.Turn.{Turn}
use Rattle.runfile.specs.Files.{number_of, line_of}
use Rattle.lines.specs.Names.{part_name, store_name}
use Rattle.lines.specs.declared.loom.Loom.{Loom}
use Rattle.runfile.specs.declared.refusal.Refusal.{Refusal}

-- what a file holds, in one line
abbrev pub summary : Loom → ℕ → List ℕ
summary loom turns =
    decimal loom.boards ++ (codes " boards, " ++ (store_name loom.store ++ (codes ", " ++ (part_name loom.part
    ++ (codes " records, " ++ (decimal turns ++ codes " turns\n"))))))

abbrev pub refusal_line : Refusal → List ℕ
refusal_line e = codes "REFUSED " ++ (decimal (number_of e) ++ (codes " " ++ (decimal (line_of e) ++ codes "\n")))

abbrev pub answer_to : Result (Loom × List Turn) Refusal → List ℕ
answer_to (Ok x) = summary x.0 (length x.1)
answer_to (Err e) = refusal_line e
