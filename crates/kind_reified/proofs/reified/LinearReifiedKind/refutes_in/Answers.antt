use Rattle.std.proofs.Common.{ap, sym, subst, ◌<◌}
use Rattle.dom_cells.specs.Cell.{IsSane}
use Rattle.kind_sum.specs.SumRelation.{sum_vars}
use Rattle.kind_reified.specs.LinearReified.{LinearReified}
use Rattle.kind_law.specs.Argument.{ArgHas}
use Rattle.kind_law.proofs.ArgumentLaws.{each_new_arg}
use Rattle.kind_reified.proofs.reified.LinearReifiedKind.refutes_in.Goals as goal

pub span-output-requires-clause-below : goal.span-output-requires-clause-below
span-output-requires-clause-below g c =
    subst (ArgHas (λ u. u.0 < g.R.Region.width c.args.cells.now)) (sym (ap (λ (k : LinearReified). k.output) c.self.view_is))
    (each_new_arg (λ u. u.0 < g.R.Region.width c.args.cells.now) (sum_vars c.args.self.now.sum) c.args.self.now.output c.requires.below).1

pub span-output-requires-clause-ready : goal.span-output-requires-clause-ready
span-output-requires-clause-ready g c =
    subst (ArgHas (λ u. IsSane (g.R.Region.cells c.args.cells.now u.0))) (sym (ap (λ (k : LinearReified). k.output) c.self.view_is))
    (each_new_arg (λ u. IsSane (g.R.Region.cells c.args.cells.now u.0)) (sum_vars c.args.self.now.sum) c.args.self.now.output c.requires.sane).1
