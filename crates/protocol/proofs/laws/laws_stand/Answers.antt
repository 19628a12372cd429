use Rattle.protocol.proofs.Runs.{sound_runs}
use Rattle.protocol.proofs.laws.laws_stand.Goals as goal

pub returns : goal.returns
returns g c = sound_runs g.P.Part.rules
