-- The law, from what is kept.
use Rattle.dom_network.proofs.CompletionLaws.{completions_same}
use Rattle.dom_network.proofs.KeptLaws.{kept_network}
use Rattle.dom_network.proofs.network.Network.one_completion.Goals as goal

pub returns : goal.returns
returns c = completions_same c.args.self.now c.self.inside.order.items (kept_network _ c.args.self.now _ _ _ _ _ c.self.view_is c.self.invariant)
