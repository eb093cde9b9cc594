use Rattle.fzn_arguments.proofs.InStep.{one_more, one_without}
use Rattle.fzn_arguments.proofs.args.args_in.Goals as goal

pub returns-in-None : goal.returns-in-None
returns-in-None c = one_without c.args.values.now c.args.form c.args.basics.now c.loop-basic.basic-index c.basic-item.result c.loop-basic-test.true c.basic-item.is c.in-None.ensures

pub loop-basic-preserved : goal.loop-basic-preserved
loop-basic-preserved c =
    rw c.in_ok-push-in-Some.ensures.items
    (one_more c.args.values.now c.args.form c.args.basics.now c.loop-basic.basic-index c.basic-item.result c.loop-basic-test.true c.basic-item.is c.loop-basic.args.items c.in-Some.arg c.loop-basic.invariant
    c.in-Some.ensures)
