-- A free variable has a place, and a domain there.
use Rattle.dom_network.proofs.PlaceLaws.{domain_at_place, place_missing, place_within}
use Rattle.dom_model.proofs.model.Model.domain.Goals as goal

pub domain_at-requires : goal.domain_at-requires
domain_at-requires c = place_within c.args.self.now.network.definers c.args.var.0 c.in-Some.place c.place.result c.place.ensures c.in-Some.is

pub unreachable-requires : goal.unreachable-requires
unreachable-requires c = place_missing c.args.self.now.network.definers c.args.var.0 c.place.result c.place.ensures c.in-None.is c.requires.free

pub returns-clause-domain : goal.returns-clause-domain
returns-clause-domain c =
    domain_at_place c.args.self.now.network c.args.var.0 c.in-Some.place c.place.result c.domain_at.result.now c.place.ensures c.in-Some.is c.domain_at.ensures.domain
