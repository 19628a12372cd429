use Rattle.records.proofs.Floats.{quarter_bits}
use Rattle.records.proofs.feed.quarters.Goals as goal

pub returns : goal.returns
returns c = rw quarter_bits
