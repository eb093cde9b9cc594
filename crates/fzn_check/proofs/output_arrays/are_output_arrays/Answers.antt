use Rattle.std.proofs.lemmas.List.Elements.{All-more}
use Rattle.fzn_check.specs.OutputArrays.{IsOutputArrayOf}
use Rattle.fzn_check.proofs.OutputArrayLaws.{one_is_not, all_are}
use Rattle.fzn_check.proofs.output_arrays.are_output_arrays.Goals as goal

pub loop-annotation-preserved : goal.loop-annotation-preserved
loop-annotation-preserved c =
    All-more (IsOutputArrayOf c.args.array.now.index.last) c.as_slice-annotations.result.now c.loop-annotation.annotation-index c.annotation-item.result c.loop-annotation-test.true
    c.loop-annotation.invariant (rw (← c.annotation-item.is) (c.in_ok-right.ensures.0 c.if-not-right.false))

pub returns-then-not-right : goal.returns-then-not-right
returns-then-not-right c =
    one_is_not (IsOutputArrayOf c.args.array.now.index.last) c.args.array.now.annotations c.as_slice-annotations.result.now c.loop-annotation.annotation-index c.annotation-item.result
    c.in_ok-right.right c.as_slice-annotations.ensures c.loop-annotation-test.true c.annotation-item.is c.in_ok-right.ensures c.if-not-right.true

pub returns : goal.returns
returns c =
    all_are (IsOutputArrayOf c.args.array.now.index.last) c.args.array.now.annotations c.as_slice-annotations.result.now c.loop-annotation.annotation-index c.as_slice-annotations.ensures
    c.loop-annotation-test.false c.loop-annotation.invariant
