-- The readers that are kept.
use Rattle.std.proofs.Common.{arith}
use Rattle.dom_network.proofs.KeptLaws.{readers_below, readers_found}
use Rattle.dom_network.proofs.network.Network.readers.Goals as goal

pub successors-requires : goal.successors-requires
successors-requires c = omega (arith, readers_below _ c.args.self.now _ _ _ _ _ c.self.view_is c.self.invariant c.args.var.0 c.requires)

pub returns : goal.returns
returns c = readers_found _ c.args.self.now _ _ _ _ _ c.self.view_is c.self.invariant c.args.var.0 c.successors.result.now c.requires c.successors.ensures
