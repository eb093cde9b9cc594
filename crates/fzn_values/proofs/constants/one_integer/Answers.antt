use Rattle.fzn_values.proofs.Told.{one_integer}
use Rattle.fzn_values.proofs.constants.one_integer.Goals as goal

pub returns : goal.returns
returns c = one_integer
