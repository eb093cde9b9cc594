use Rattle.reading.proofs.Faults.{one_place}
use Rattle.reading.proofs.law.fails_once.Goals as goal

pub returns : goal.returns
returns g c = λ symbols one other f h. one_place g.T.Spelled.spells symbols one other f h
