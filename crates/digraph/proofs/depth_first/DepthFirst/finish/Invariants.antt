-- What is known of the walk, and that no node is fresh again.
use Rattle.digraph.specs.Descent.{IsDescent, KeepsBegun, total_cost}
use Rattle.digraph.proofs.depth_first.DepthFirst.finish.Given as goal

abbrev pub invariant-loop-node : goal.invariant-loop-node
invariant-loop-node l = record { known : IsDescent l.graph l.self; begun : KeepsBegun l.fn.self l.self }

abbrev pub decreases-loop-node : goal.decreases-loop-node
decreases-loop-node l = total_cost l.self.states l.graph
