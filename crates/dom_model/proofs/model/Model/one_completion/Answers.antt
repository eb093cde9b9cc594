-- It is the law of the network.
use Rattle.std.proofs.Common.{subst}
use Rattle.dom_model.specs.Problem.{Problem}
use Rattle.dom_network.specs.NetworkLaws.{HasOneCompletion}
use Rattle.dom_model.proofs.model.Model.one_completion.Goals as goal

pub returns : goal.returns
returns c = subst (λ (p : Problem). HasOneCompletion p.network) c.self.view_is c.one_completion.ensures
