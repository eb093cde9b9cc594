-- The order is one of the parts.
use Rattle.dom_network.proofs.tests.if_parts.Goals as goal

pub assemble-requires : goal.assemble-requires
assemble-requires c = c.if-not-are_parts.ensures c.args.order.items c.requires
