-- The sources of the nodes so far are met.
use Rattle.std.proofs.Common.{take}
use Rattle.incidence.specs.Meeting.{Meets, SuccessorHasSource}
use Rattle.incidence.proofs.dependents.meet_sources.Given as goal

abbrev pub invariant-loop-node : goal.invariant-loop-node
invariant-loop-node l = record {
  met : Meets l.label (SuccessorHasSource l.sources l.among (take l.node-index l.nodes)) l.fn.met l.fn.dependents l.met l.dependents;
}
