use Rattle.std.proofs.Common.{rules, FitsSigned}
use Rattle.std.specs.Int.{w64}
use Rattle.std.proofs.lemmas.Int.{to_z-of_z}
use Rattle.fzn_values.proofs.Told.{no_ints, ints_more, basic_at}
use Rattle.fzn_values.proofs.constants.Constants.ints_in.Goals as goal

pub returns-in-None : goal.returns-in-None
returns-in-None c =
    no_ints c.args.self.now c.args.basics.now c.loop-basic.basic-index c.basic-item.result
    (basic_at c.args.basics.now c.loop-basic.basic-index c.basic-item.result c.loop-basic-test.true c.basic-item.is) c.in-None.ensures

pub loop-basic-preserved : goal.loop-basic-preserved
loop-basic-preserved c =
    let small : FitsSigned w64 c.in-Some.value = search rules in
    rw (c.in_ok-push-in-Some.ensures.items, to_z-of_z w64 _ small)
    (ints_more c.args.self.now c.args.basics.now c.loop-basic.ints.items c.loop-basic.basic-index c.basic-item.result c.in-Some.value
    (basic_at c.args.basics.now c.loop-basic.basic-index c.basic-item.result c.loop-basic-test.true c.basic-item.is) c.loop-basic.invariant c.in-Some.ensures)
