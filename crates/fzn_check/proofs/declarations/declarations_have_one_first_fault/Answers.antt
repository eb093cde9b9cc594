use Rattle.fzn_check.proofs.DeclarationLaws.{one_first_fault}
use Rattle.fzn_check.proofs.declarations.declarations_have_one_first_fault.Goals as goal

pub returns : goal.returns
returns c = one_first_fault
