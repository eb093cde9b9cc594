-- Constraints are fit for the variables that they define, and there are few of them.
use Rattle.std.proofs.Common.{◌≡◌, ◌<◌, ◌+◌, ◌∙◌, ap, subst, sym, length, arith, List}
use Rattle.dom_definers.specs.Definers.{DefineBelow}
use Rattle.dom_definers.specs.Width.{AreFitFrom}
use Rattle.dom_definers.specs.declared.posted.Posted.{Posted}
use Rattle.dom_model.specs.Draft.{Draft}
use Rattle.dom_model.specs.Finished.{AreDefined, kept}
use Rattle.dom_model.proofs.FinishLaws.{below_over, fit_kept_over, wide_below}
use Rattle.dom_model.proofs.builder.ModelBuilder.too_wide.Goals as goal

pub first_too_wide-requires-clause-below : goal.first_too_wide-requires-clause-below
first_too_wide-requires-clause-below c =
    let defined = subst (λ (d : Draft). AreDefined d c.args.first.now c.args.hulls.now) (sym c.self.view_is) c.requires.defined in
    subst (λ (cs : List Posted). DefineBelow (length c.args.hulls.now) cs) (sym c.as_slice.ensures.value) (below_over _ c.args.first.now c.args.hulls.now c.self.invariant defined)

pub first_too_wide-requires-clause-fit : goal.first_too_wide-requires-clause-fit
first_too_wide-requires-clause-fit c =
    let defined = subst (λ (d : Draft). AreDefined d c.args.first.now c.args.hulls.now) (sym c.self.view_is) c.requires.defined in
    let stay = subst (λ (d : Draft). c.args.definers.now ≡ kept d c.args.first.now c.args.hulls.now) (sym c.self.view_is) c.requires.definers in
    subst (λ (cs : List Posted). AreFitFrom (length c.args.hulls.now) 0 cs c.args.definers.now) (sym c.as_slice.ensures.value)
    (fit_kept_over _ c.args.first.now c.args.definers.now c.args.hulls.now c.self.invariant defined c.ordered_is_acyclic.ensures stay)

pub overflow_cast-result : goal.overflow_cast-result
overflow_cast-result c =
    let below : c.in-Some.place < 0 + length c.as_slice.result.now =
    wide_below 0 c.in-Some.place c.as_slice.result.now c.args.definers.now c.args.hulls.now (sym c.first_too_wide.ensures ∙ c.in-Some.is) in
    let few = c.self.invariant.few_constraints in
    let size : length c.as_slice.result.now ≡ length c.self.inside.constraints.items = ap (λ (cs : List Posted). length cs) c.as_slice.ensures.value in
    omega (arith, below, few, size)

pub overflow_add-result : goal.overflow_add-result
overflow_add-result c =
    let below : c.in-Some.place < 0 + length c.as_slice.result.now =
    wide_below 0 c.in-Some.place c.as_slice.result.now c.args.definers.now c.args.hulls.now (sym c.first_too_wide.ensures ∙ c.in-Some.is) in
    let few = c.self.invariant.few_constraints in
    let size : length c.as_slice.result.now ≡ length c.self.inside.constraints.items = ap (λ (cs : List Posted). length cs) c.as_slice.ensures.value in
    omega (arith, below, few, size)
