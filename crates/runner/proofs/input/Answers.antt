use Rattle.std.proofs.Common.{vec_items}
use Rattle.runner.proofs.Held.{front, means}
use Rattle.runner.proofs.input.Goals as goal

pub returns-clause-bytes : goal.returns-clause-bytes
returns-clause-bytes g c =
    let read = rw (c.take.ensures.limit, c.take.ensures.inner, c.new-bytes.ensures.items) at c.in_ok-read_to_end.ensures.bytes in
    front (g.R.Read.remaining c.args.reader) 32769 (vec_items c.read_to_end.new.buf) read

pub returns-clause-meaning : goal.returns-clause-meaning
returns-clause-meaning g c =
    let read = rw (c.take.ensures.limit, c.take.ensures.inner, c.new-bytes.ensures.items) at c.in_ok-read_to_end.ensures.bytes in
    means (g.R.Read.remaining c.args.reader) (vec_items c.read_to_end.new.buf)
    (front (g.R.Read.remaining c.args.reader) 32769 (vec_items c.read_to_end.new.buf) read)
