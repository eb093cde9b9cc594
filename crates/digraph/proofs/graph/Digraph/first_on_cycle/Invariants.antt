-- None of the nodes so far is asked for and on a cycle.
use Rattle.std.proofs.Common.{ℕ, ◌<◌}
use Rattle.digraph.specs.Cycle.{IsAskedOnCycle}
use Rattle.digraph.proofs.graph.Digraph.first_on_cycle.Given as goal

abbrev pub invariant-loop-node : goal.invariant-loop-node
invariant-loop-node l = (j : ℕ) → j < l.node → IsAskedOnCycle l.self l.among j → ⊥
