-- The nodes so far.
use Rattle.std.proofs.Common.{◌≡◌, take}
use Rattle.dom_definers.specs.Definers.{dependence}
use Rattle.dom_definers.proofs.dependence.dependence_of.Given as goal

abbrev pub invariant-loop-definer : goal.invariant-loop-definer
invariant-loop-definer l = record { nodes : l.graph ≡ dependence l.constraints (take l.definer-index l.definers) }
