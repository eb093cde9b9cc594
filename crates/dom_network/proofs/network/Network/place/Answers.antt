-- The place that is kept.
use Rattle.std.proofs.Common.{arith}
use Rattle.dom_network.proofs.KeptLaws.{place_below, place_found}
use Rattle.dom_network.proofs.network.Network.place.Goals as goal

pub index-requires : goal.index-requires
index-requires c = omega (arith, place_below _ c.args.self.now _ _ _ _ _ c.self.view_is c.self.invariant c.args.var.0 c.requires)

pub returns : goal.returns
returns c = place_found _ c.args.self.now _ _ _ _ _ c.self.view_is c.self.invariant c.args.var.0 c.index.result.now c.requires c.index.ensures
