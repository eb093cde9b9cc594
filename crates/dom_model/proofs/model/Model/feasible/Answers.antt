-- The network admits what is feasible.
use Rattle.std.proofs.Common.{◌≡◌, ◌↔◌, length, sym, ◌∙◌, subst, IsTrue}
use Rattle.dom_model.specs.Least.{IsFeasible}
use Rattle.dom_model.specs.Problem.{Problem}
use Rattle.dom_model.proofs.FeasibleLaws.{told_feasible}
use Rattle.dom_model.proofs.model.Model.feasible.Goals as goal

pub returns : goal.returns
returns c =
    let size : length c.args.assignment.now ≡ length c.self.inside.variables.items =
    subst (λ (p : Problem). length c.args.assignment.now ≡ length p.network.hulls) (sym c.self.view_is) c.requires.whole ∙ sym c.vars-network.ensures.whole ∙ c.self.invariant.whole in
    subst (λ (p : Problem). IsTrue c.admits.result ↔ IsFeasible p c.args.assignment.now) c.self.view_is (told_feasible _ c.args.assignment.now c.admits.result c.self.invariant size c.admits.ensures)
