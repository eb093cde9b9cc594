-- Definers that have an order are definitions.
use Rattle.std.proofs.Common.{subst, sym, length, List}
use Rattle.dom_definers.specs.Hulls.{AreFitDefiners}
use Rattle.dom_definers.specs.declared.posted.Posted.{Posted}
use Rattle.dom_model.specs.Draft.{Draft}
use Rattle.dom_model.specs.Finished.{AreDefined}
use Rattle.dom_model.proofs.FinishLaws.{fit_definers_of}
use Rattle.dom_model.proofs.builder.ModelBuilder.kept_definers.Goals as goal

pub kept_definers-requires : goal.kept_definers-requires
kept_definers-requires c =
    let defined = subst (λ (d : Draft). AreDefined d c.args.first.now c.args.hulls.now) (sym c.self.view_is) c.requires in
    subst (λ (cs : List Posted). AreFitDefiners (length c.args.hulls.now) cs c.args.first.now) (sym c.as_slice.ensures.value)
    (subst (λ n. AreFitDefiners n c.self.inside.constraints.items c.args.first.now) (sym defined.hulls.whole)
    (fit_definers_of _ c.args.first.now defined.order c.self.invariant defined.definers defined.is_order c.ordered_is_acyclic.ensures))
