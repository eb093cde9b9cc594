use Rattle.fzn_output_marks.proofs.SetLaws.{all_told, unread_none}
use Rattle.fzn_output_marks.proofs.sets.sets_of.Goals as goal

pub returns-in-None : goal.returns-in-None
returns-in-None c = unread_none c.args.words.now (rw c.in-None.is at c.in_ok-argument_of.ensures)

pub returns-in-Some : goal.returns-in-Some
returns-in-Some c = all_told c.args.words.now c.in-Some.literals c.ends_of_all.result (rw c.in-Some.is at c.in_ok-argument_of.ensures) c.ends_of_all.ensures
