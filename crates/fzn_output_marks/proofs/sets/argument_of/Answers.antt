use Rattle.fzn_output_marks.proofs.SetLaws.{end_told, more_told, argument_stuck}
use Rattle.fzn_output_marks.proofs.sets.argument_of.Goals as goal

pub returns-then-is_empty : goal.returns-then-is_empty
returns-then-is_empty c = end_told c.args.words.now c.in-Ok.literals c.in-Ok.rest.now c.is_empty.result c.in-Ok.ensures c.is_empty.ensures c.if-is_empty.true

pub returns-else-is_empty : goal.returns-else-is_empty
returns-else-is_empty c = more_told c.args.words.now c.in-Ok.literals c.in-Ok.rest.now c.is_empty.result c.in-Ok.ensures c.is_empty.ensures c.if-is_empty.false

pub returns-in-Err-Stuck : goal.returns-in-Err-Stuck
returns-in-Err-Stuck c = argument_stuck c.args.words.now _ (rw c.in-Err-Stuck.field-0-is at c.in-Err-Stuck.ensures)
