-- The nodes so far are done.
use Rattle.digraph.specs.Descent.{IsRested}
use Rattle.digraph.proofs.graph.Digraph.order.Given as goal

abbrev pub invariant-loop-root : goal.invariant-loop-root
invariant-loop-root l = IsRested l.self l.root l.walk
