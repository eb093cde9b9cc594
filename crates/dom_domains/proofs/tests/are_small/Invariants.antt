-- The variables from this number on are small.
use Rattle.std.proofs.Common.{◌≤◌, drop, length}
use Rattle.dom_domains.specs.FreeDomains.{AreSmallVariables}
use Rattle.dom_domains.proofs.tests.are_small.Given as goal

abbrev pub invariant-loop-number : goal.invariant-loop-number
invariant-loop-number l = record {
  within : l.number ≤ length l.variables;
  small : AreSmallVariables (drop l.number l.variables);
}

abbrev pub decreases-loop-number : goal.decreases-loop-number
decreases-loop-number l = l.number
