-- The dependents that are kept.
use Rattle.std.proofs.Common.{arith}
use Rattle.dom_network.proofs.KeptLaws.{dependents_below, dependents_found}
use Rattle.dom_network.proofs.network.Network.dependents.Goals as goal

pub successors-requires : goal.successors-requires
successors-requires c = omega (arith, dependents_below _ c.args.self.now _ _ _ _ _ c.self.view_is c.self.invariant c.args.var.0 c.requires.below)

pub returns : goal.returns
returns c = dependents_found _ c.args.self.now _ _ _ _ _ c.self.view_is c.self.invariant c.args.var.0 c.successors.result.now c.requires.below c.requires.free c.successors.ensures
