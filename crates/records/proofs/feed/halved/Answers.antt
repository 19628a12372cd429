use Rattle.records.proofs.Floats.{half_bits}
use Rattle.records.proofs.feed.halved.Goals as goal

pub returns : goal.returns
returns c = rw half_bits
