-- The parts are those of a network.
use Rattle.std.proofs.Common.{sym, ◌∙◌, arith}
use Rattle.dom_network.proofs.TestLaws.{two_network}
use Rattle.dom_network.proofs.tests.are_parts.Goals as goal

pub returns : goal.returns
returns c =
    two_network c.args.definition.now c.args.bound.now c.args.hulls.now c.args.domain.now c.in-Some.hull (omega (arith, c.len.ensures.count, c.if-len-ne2.false)) c.if-not-are_known.ensures
    c.len.ensures.small c.if-not-is_fit_over.ensures c.if-not-is_fit_over-2.ensures c.if-not-gives.ensures (sym c.hull.ensures.hull ∙ c.in-Some.is) c.if-not-is_domain_of.ensures.0
    c.if-not-is_domain_of.ensures.1 c.if-not-reads_first.ensures
