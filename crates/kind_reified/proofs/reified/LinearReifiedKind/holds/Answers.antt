use Rattle.std.proofs.Common.{ap, sym, subst, ◌<◌, length}
use Rattle.kind_sum.specs.SumRelation.{sum_vars}
use Rattle.kind_reified.specs.LinearReified.{LinearReified}
use Rattle.kind_law.specs.Argument.{ArgHas}
use Rattle.kind_law.proofs.ArgumentLaws.{each_new_arg}
use Rattle.kind_reified.proofs.reified.LinearReifiedKind.holds.Goals as goal

pub span-output-requires-clause-below : goal.span-output-requires-clause-below
span-output-requires-clause-below c =
    subst (ArgHas (λ u. u.0 < length c.args.a.now)) (sym (ap (λ (k : LinearReified). k.output) c.self.view_is))
    (each_new_arg (λ u. u.0 < length c.args.a.now) (sum_vars c.args.self.now.sum) c.args.self.now.output c.requires.below).1
