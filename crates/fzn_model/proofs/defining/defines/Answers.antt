use Rattle.fzn_model.proofs.DefiningLaws.{decides_more}
use Rattle.fzn_model.proofs.defining.defines.Goals as goal

pub loop-annotation-preserved : goal.loop-annotation-preserved
loop-annotation-preserved c =
    decides_more c.args.scope.now c.args.defined.now c.args.name.now c.args.kind.now c.args.annotations.now c.loop-annotation.annotation-index c.annotation-item.result c.loop-annotation-test.true
    c.annotation-item.is c.loop-annotation.invariant c.in-None.ensures
