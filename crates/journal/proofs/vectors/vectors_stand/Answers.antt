use Rattle.std.proofs.Common.{refl}
use Rattle.journal.proofs.vectors.vectors_stand.Goals as goal

pub returns : goal.returns
returns c = record { new = refl; after_put = refl; after_keep = refl }
