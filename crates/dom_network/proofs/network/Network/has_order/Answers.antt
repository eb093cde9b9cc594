-- The order that is kept.
use Rattle.dom_network.proofs.KeptLaws.{kept_network}
use Rattle.dom_network.proofs.network.Network.has_order.Goals as goal

pub returns : goal.returns
returns c = (c.self.inside.order.items, kept_network _ c.args.self.now _ _ _ _ _ c.self.view_is c.self.invariant)
