-- The nodes of the order so far.
use Rattle.std.proofs.Common.{take}
use Rattle.incidence.proofs.DependentsLaws.{AreFound}
use Rattle.incidence.proofs.dependents.dependents_of.Given as goal

abbrev pub invariant-loop-node : goal.invariant-loop-node
invariant-loop-node l = record { found : AreFound l.graph l.among (take l.node-index l.order) l.sources l.dependents }
