use Rattle.fzn_values.proofs.Told.{one_list}
use Rattle.fzn_values.proofs.constants.one_list.Goals as goal

pub returns : goal.returns
returns c = one_list
