-- The domain that is kept at the place.
use Rattle.std.proofs.Common.{arith}
use Rattle.dom_network.proofs.KeptLaws.{domain_below, domain_found}
use Rattle.dom_network.proofs.network.Network.domain.Goals as goal

pub index-requires : goal.index-requires
index-requires c = omega (arith, domain_below _ c.args.self.now _ _ _ _ _ c.self.view_is c.self.invariant c.args.place c.requires)

pub returns : goal.returns
returns c = domain_found _ c.args.self.now _ _ _ _ _ c.self.view_is c.self.invariant c.args.place c.index.result.now c.requires c.index.ensures
