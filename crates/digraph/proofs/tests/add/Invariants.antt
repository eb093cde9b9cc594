use Rattle.std.proofs.Common.{◌<◌, length}
use Rattle.digraph.proofs.tests.add.Given as goal

abbrev pub invariant-loop-to : goal.invariant-loop-to
invariant-loop-to l = 0 < length l.graph
