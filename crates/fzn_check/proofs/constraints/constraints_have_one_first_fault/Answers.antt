use Rattle.fzn_check.proofs.ConstraintLaws.{one_fault}
use Rattle.fzn_check.proofs.constraints.constraints_have_one_first_fault.Goals as goal

pub returns : goal.returns
returns c = one_fault
