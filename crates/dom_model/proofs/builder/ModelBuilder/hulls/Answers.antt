-- Definers that have an order are definitions, and declarations are small.
use Rattle.std.proofs.Common.{subst, sym, length, List}
use Rattle.dom_definers.specs.Definers.{AreDefiners, dependence}
use Rattle.dom_definers.specs.Hulls.{AreFitDefiners, AreSmallDeclared}
use Rattle.dom_definers.specs.declared.posted.Posted.{Posted}
use Rattle.dom_definers.specs.declared.variable.Variable.{Variable}
use Rattle.digraph.specs.Order.{IsOrder}
use Rattle.dom_model.specs.Draft.{Draft}
use Rattle.dom_model.proofs.FinishLaws.{fit_definers_of, small_declared}
use Rattle.dom_model.proofs.builder.ModelBuilder.hulls.Goals as goal

pub hulls_of-requires-clause-definers : goal.hulls_of-requires-clause-definers
hulls_of-requires-clause-definers c =
    let first = subst (λ (d : Draft). AreDefiners d.constraints (length d.variables) c.args.first.now) (sym c.self.view_is) c.requires.first in
    let order = subst (λ (d : Draft). IsOrder (dependence d.constraints c.args.first.now) c.args.order.now) (sym c.self.view_is) c.requires.order in
    subst (λ (vs : List Variable). AreFitDefiners (length vs) c.as_slice-2.result.now c.args.first.now) (sym c.as_slice.ensures.value)
    (subst (λ (cs : List Posted). AreFitDefiners (length c.self.inside.variables.items) cs c.args.first.now) (sym c.as_slice-2.ensures.value)
    (fit_definers_of _ c.args.first.now c.args.order.now c.self.invariant first order c.ordered_is_acyclic.ensures))

pub hulls_of-requires-clause-small : goal.hulls_of-requires-clause-small
hulls_of-requires-clause-small c = subst (λ (vs : List Variable). AreSmallDeclared vs) (sym c.as_slice.ensures.value) (small_declared _ c.self.invariant)
