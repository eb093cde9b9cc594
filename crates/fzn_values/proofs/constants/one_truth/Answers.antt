use Rattle.fzn_values.proofs.Told.{one_truth}
use Rattle.fzn_values.proofs.constants.one_truth.Goals as goal

pub returns : goal.returns
returns c = one_truth
