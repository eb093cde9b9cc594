-- The domains so far, those of the variables that are left behind them, are all; and no variable so far has a fault.
use Rattle.std.proofs.Common.{◌≡◌, ◌<◌, ◌++◌, ℕ, drop}
use Rattle.dom_domains.specs.Faults.{IsFaultAt}
use Rattle.dom_domains.specs.FreeDomains.{AreDomains, AreSmallVariables, free_domains}
use Rattle.dom_domains.specs.declared.fault.DomainFault.{DomainFault}
use Rattle.dom_domains.proofs.free.free_domains.Given as goal

abbrev pub invariant-loop-number : goal.invariant-loop-number
invariant-loop-number l = record {
  left : l.domains.items ++ free_domains (drop l.number l.variables) (drop l.number l.definers) ≡ free_domains l.variables l.definers;
  are_domains : AreDomains l.domains.items;
  small : AreSmallVariables (drop l.number l.variables);
  faultless : (k : ℕ) (f : DomainFault) → k < l.number → IsFaultAt l.variables l.definers k f → ⊥;
}
