-- What is read is below.
use Rattle.any_kind.specs.Any.{any_inputs}
use Rattle.kind_law.proofs.EachLaws.{each_all}
use Rattle.dom_network.proofs.TestLaws.{test_inputs}
use Rattle.dom_network.proofs.tests.has_range.Goals as goal

pub is_defined_over-requires-clause-below : goal.is_defined_over-requires-clause-below
is_defined_over-requires-clause-below c = test_inputs c.args.hulls.now c.args.kind.now c.requires.functional c.requires.fit

pub is_defined_over-requires-clause-ready : goal.is_defined_over-requires-clause-ready
is_defined_over-requires-clause-ready c = each_all (λ u. Unit {0}) (any_inputs c.args.kind.now) (λ u. tt)

pub range-requires-clause-below : goal.range-requires-clause-below
range-requires-clause-below c = test_inputs c.args.hulls.now c.args.kind.now c.requires.functional c.requires.fit

pub range-requires-clause-ready : goal.range-requires-clause-ready
range-requires-clause-ready c = each_all (λ u. Unit {0}) (any_inputs c.args.kind.now) (λ u. tt)
