use Rattle.std.proofs.Common.{◌∙◌, ap, sym, subst, ◌<◌, length}
use Rattle.dom_core.specs.View.{movement_at}
use Rattle.kind_law.specs.Laws.{IsTrueChange}
use Rattle.kind_sum.specs.SumRelation.{sum_vars}
use Rattle.kind_reified.specs.LinearReified.{LinearReified}
use Rattle.kind_law.specs.Argument.{ArgHas, arg_movement}
use Rattle.kind_law.proofs.ArgumentLaws.{each_new_arg}
use Rattle.kind_sum.specs.SumLaws.{each_unit}
use Rattle.kind_reified.proofs.KeepLaws.{rest_keeps, after_keeps}
use Rattle.kind_reified.proofs.reified.LinearReifiedKind.keeps.Goals as goal

pub movement_of-output-requires : goal.movement_of-output-requires
movement_of-output-requires c =
    subst (ArgHas (λ u. u.0 < length c.args.view.now)) (sym (ap (λ (k : LinearReified). k.output) c.self.view_is))
    (each_new_arg (λ u. u.0 < length c.args.view.now) (sum_vars c.args.self.now.sum) c.args.self.now.output c.requires.below).1

pub is_at_rest-requires : goal.is_at_rest-requires
is_at_rest-requires c = (each_new_arg (λ u. u.0 < length c.args.view.now) (sum_vars c.args.self.now.sum) c.args.self.now.output c.requires.below).0

pub returns-then-is_at_rest : goal.returns-then-is_at_rest
returns-then-is_at_rest c =
    rest_keeps c.args.self.now c.args.view.now c.movement_of-output.result (c.movement_of-output.ensures ∙ ap (λ (k : LinearReified). arg_movement c.args.view.now k.output) c.self.view_is)
    (sym c.is_at_rest.ensures ∙ c.if-is_at_rest.true)

pub truths-after-requires-clause-below : goal.truths-after-requires-clause-below
truths-after-requires-clause-below c = (each_new_arg (λ u. u.0 < length c.args.view.now) (sum_vars c.args.self.now.sum) c.args.self.now.output c.requires.below).0

pub truths-after-requires-clause-ready : goal.truths-after-requires-clause-ready
truths-after-requires-clause-ready c = each_unit (sum_vars c.args.self.now.sum)

pub returns-then-are_same : goal.returns-then-are_same
returns-then-are_same c =
    after_keeps c.args.self.now c.args.view.now c.movement_of-output.result c.truths-after.result (c.movement_of-output.ensures ∙ ap (λ (k : LinearReified). arg_movement c.args.view.now k.output) c.self.view_is)
    c.truths-after.ensures.range (sym c.are_same.ensures ∙ c.if-are_same.true)

pub is_kept_by_change-requires-clause-below : goal.is_kept_by_change-requires-clause-below
is_kept_by_change-requires-clause-below c = (each_new_arg (λ u. u.0 < length c.args.view.now) (sum_vars c.args.self.now.sum) c.args.self.now.output c.requires.below).0

pub is_kept_by_change-requires-clause-change : goal.is_kept_by_change-requires-clause-change
is_kept_by_change-requires-clause-change c =
    (each_new_arg (λ u. IsTrueChange (movement_at c.args.view.now u.0)) (sum_vars c.args.self.now.sum) c.args.self.now.output c.requires.change).0
