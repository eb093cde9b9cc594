use Rattle.std.proofs.Common.{IsTrue, false, arith}
use Rattle.fzn_model.proofs.Bounds.{numbered_below}
use Rattle.fzn_model.proofs.DefiningLaws.{barred_none}
use Rattle.fzn_model.proofs.defining.defines_named.Goals as goal

pub may_define-requires : goal.may_define-requires
may_define-requires c =
    let below = numbered_below c.args.scope.now c.args.form c.args.asked.now c.in-Some.var c.in-Some.ensures in
    omega (arith, below, c.requires.whole)

pub returns-in-None : goal.returns-in-None
returns-in-None c = λ x h. c.in-None.ensures x h.0

pub returns-else-may_define : goal.returns-else-may_define
returns-else-may_define c =
    barred_none c.args.scope.now c.declarations-names_are_different.ensures.different c.args.defined.now c.args.name.now c.args.kind.now c.args.asked.now c.args.form c.in-Some.var
    c.in-Some.ensures (λ m. let t : IsTrue false = c.if-may_define.ensures.1 m in absurd cc)
