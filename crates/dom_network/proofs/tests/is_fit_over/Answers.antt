-- What is measured is known.
use Rattle.std.proofs.Common.{rules, length}
use Rattle.any_kind.specs.Any.{any_measured}
use Rattle.kind_law.proofs.EachLaws.{each_all}
use Rattle.dom_definers.proofs.WidthLaws.{measured_below}
use Rattle.dom_network.proofs.TestLaws.{measured_small}
use Rattle.dom_network.proofs.tests.is_fit_over.Goals as goal

pub is_too_wide-requires-clause-below : goal.is_too_wide-requires-clause-below
is_too_wide-requires-clause-below c = measured_below (length c.args.hulls.now) c.args.kind.now (search rules)

pub is_too_wide-requires-clause-ready : goal.is_too_wide-requires-clause-ready
is_too_wide-requires-clause-ready c = each_all (λ u. Unit {0}) (any_measured c.args.kind.now) (λ u. tt)

pub is_too_wide-requires-clause-small : goal.is_too_wide-requires-clause-small
is_too_wide-requires-clause-small c = measured_small c.args.hulls.now c.args.kind.now (search rules) c.requires c.len.ensures.small
