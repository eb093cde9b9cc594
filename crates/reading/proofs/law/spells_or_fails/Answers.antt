use Rattle.reading.proofs.Faults.{not_both}
use Rattle.reading.proofs.law.spells_or_fails.Goals as goal

pub returns : goal.returns
returns g c = λ symbols x left d f. not_both g.T.Spelled.spells symbols x left d f
