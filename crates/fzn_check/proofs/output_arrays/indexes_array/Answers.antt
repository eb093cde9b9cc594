use Rattle.fzn_check.proofs.OutputArrayLaws.{below_no_array, index_told}
use Rattle.fzn_check.proofs.output_arrays.indexes_array.Goals as goal

pub returns-in-None : goal.returns-in-None
returns-in-None c = below_no_array c.args.array.now.index.last c.args.annotation.now c.in-None.ensures

pub returns-in-Some : goal.returns-in-Some
returns-in-Some c = index_told c.args.array.now.index.last c.in-Some.length c.args.annotation.now c.right_sets.result c.in-Some.ensures c.right_sets.ensures
