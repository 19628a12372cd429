use Rattle.std.proofs.Common.{Ok, rules}
use Rattle.runfile.proofs.SpelledFiles.{reads_back, spelled}
use Rattle.runfile.proofs.Turns.{first_two}
use Rattle.runfile.proofs.file.read.Goals as goal

pub rest_of-requires : goal.rest_of-requires
rest_of-requires c =
    first_two c.new.result (c.in_ok-loom.loom, c.in_ok-loom.reader) c.in_ok-loom.ensures

pub returns-in_err-turns-clause-reads_back : goal.returns-in_err-turns-clause-reads_back
returns-in_err-turns-clause-reads_back c = reads_back c.args.bytes.now c.from_residual-in_err-turns.result (search rules)

pub returns-clause-reads_back : goal.returns-clause-reads_back
returns-clause-reads_back c =
    reads_back c.args.bytes.now (Ok (record { loom = c.in_ok-loom.loom; turns = c.in_ok-turns.turns })) (search rules)

pub returns-clause-spelled : goal.returns-clause-spelled
returns-clause-spelled c =
    spelled c.args.bytes.now (Ok (record { loom = c.in_ok-loom.loom; turns = c.in_ok-turns.turns })) (search rules)
