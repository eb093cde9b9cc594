use Rattle.fzn_model.proofs.Printing.{indexed_told}
use Rattle.fzn_model.proofs.outputs.array_output.Goals as goal

pub returns-in-Some : goal.returns-in-Some
returns-in-Some c =
    indexed_told c.args.values.now c.args.array.now c.args.mark.now c.in-Some.sets c.indexed_output.result
    (c.is_built_type.ensures.0 c.if-not-is_built_type.false) (rw c.in-Some.is at c.in_ok-index_sets.ensures) c.indexed_output.ensures
