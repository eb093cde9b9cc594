use Rattle.fzn_output_marks.proofs.SetLaws.{none_right, some_right}
use Rattle.fzn_output_marks.proofs.sets.right_sets.Goals as goal

pub returns-in-None : goal.returns-in-None
returns-in-None c = none_right c.args.annotation.now c.args.length (rw c.in-None.is at c.in_ok-index_sets.ensures)

pub returns-in-Some : goal.returns-in-Some
returns-in-Some c = some_right c.args.annotation.now c.args.length c.in-Some.sets c.count_is.result (rw c.in-Some.is at c.in_ok-index_sets.ensures) c.count_is.ensures
