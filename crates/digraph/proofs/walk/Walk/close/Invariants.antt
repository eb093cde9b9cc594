use Rattle.std.specs.Vec.{vec_len}
use Rattle.digraph.proofs.walk.Walk.close.Given as goal

abbrev pub decreases-loop-node : goal.decreases-loop-node
decreases-loop-node l = vec_len l.self.waiting
