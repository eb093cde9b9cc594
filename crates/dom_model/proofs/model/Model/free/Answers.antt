-- There are as many domains as free variables.
use Rattle.std.proofs.Common.{◌≡◌, length, sym, ◌∙◌, ap, subst, List, ℤ}
use Rattle.dom_core.specs.declared.var_id.VarId.{VarId}
use Rattle.dom_model.specs.Problem.{Problem}
use Rattle.dom_model.proofs.FeasibleLaws.{free_lengths}
use Rattle.dom_model.proofs.model.Model.free.Goals as goal

pub returns-clause-domains : goal.returns-clause-domains
returns-clause-domains c =
    let same : length c.self.inside.network.domains ≡ length c.free.result.now =
    ap (λ (ds : List (List ℤ)). length ds) c.self.invariant.domains ∙ free_lengths 0 c.self.inside.variables.items c.self.inside.network.definers c.self.invariant.whole
    ∙ sym (ap (λ (vs : List VarId). length vs) c.free.ensures) in
    subst (λ (p : Problem). length p.network.domains ≡ length c.free.result.now) c.self.view_is same
