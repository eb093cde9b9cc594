-- Each constraint is to define one of the variables, or none.
use Rattle.std.proofs.Common.{ap, length, subst, sym, List}
use Rattle.dom_definers.specs.Definers.{DefineBelow}
use Rattle.dom_definers.specs.declared.posted.Posted.{Posted}
use Rattle.dom_definers.specs.declared.variable.Variable.{Variable}
use Rattle.dom_model.proofs.FinishLaws.{fit_below}
use Rattle.dom_model.proofs.builder.ModelBuilder.first_definers.Goals as goal

pub definers_of-requires : goal.definers_of-requires
definers_of-requires c =
    subst (λ (cs : List Posted). DefineBelow (length c.as_slice-variables.result.now) cs) (sym c.as_slice.ensures.value)
    (subst (λ n. DefineBelow n c.self.inside.constraints.items) (sym (ap (λ (vs : List Variable). length vs) c.as_slice-variables.ensures.value)) (fit_below _ c.self.invariant))
