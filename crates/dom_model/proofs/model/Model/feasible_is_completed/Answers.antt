-- It follows of the law of the network.
use Rattle.std.proofs.Common.{subst}
use Rattle.dom_model.specs.Problem.{Problem}
use Rattle.dom_model.specs.Sound.{FeasibleIsCompleted}
use Rattle.dom_model.proofs.FeasibleLaws.{feasible_completed}
use Rattle.dom_model.proofs.model.Model.feasible_is_completed.Goals as goal

pub returns : goal.returns
returns c = subst (λ (p : Problem). FeasibleIsCompleted p) c.self.view_is (feasible_completed _ c.self.invariant c.admitted_is_completed.ensures)
