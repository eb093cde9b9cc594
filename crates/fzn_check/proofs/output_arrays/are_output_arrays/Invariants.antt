-- Every annotation so far is right.
use Rattle.std.proofs.Common.{take}
use Rattle.std.specs.List.{All}
use Rattle.fzn_check.specs.OutputArrays.{IsOutputArrayOf}
use Rattle.fzn_check.proofs.output_arrays.are_output_arrays.Given as goal

abbrev pub invariant-loop-annotation : goal.invariant-loop-annotation
invariant-loop-annotation l = All (IsOutputArrayOf l.array.index.last) (take l.annotation-index l.annotations)
