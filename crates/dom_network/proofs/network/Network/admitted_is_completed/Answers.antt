-- The law, from what is kept.
use Rattle.dom_network.proofs.CompletionLaws.{admitted_completed}
use Rattle.dom_network.proofs.KeptLaws.{kept_network}
use Rattle.dom_network.proofs.network.Network.admitted_is_completed.Goals as goal

pub returns : goal.returns
returns c = admitted_completed c.args.self.now c.self.inside.order.items (kept_network _ c.args.self.now _ _ _ _ _ c.self.view_is c.self.invariant)
