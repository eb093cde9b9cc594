use Rattle.chains.proofs.Follow.{one_end}
use Rattle.chains.proofs.ends.one_end.Goals as goal

pub returns : goal.returns
returns c = one_end
