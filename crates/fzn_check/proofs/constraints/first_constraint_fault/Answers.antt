use Rattle.fzn_check.proofs.constraints.first_constraint_fault.Goals as goal

pub returns : goal.returns
returns c = rw c.in_ok-distinct.ensures at c.first_among.ensures
