-- The declarations so far are nodes.
use Rattle.std.proofs.Common.{◌≡◌, map, take}
use Rattle.fzn_check.specs.Places.{successors}
use Rattle.fzn_check.proofs.graph.graph_of.Given as goal

abbrev pub invariant-loop-declaration : goal.invariant-loop-declaration
invariant-loop-declaration l = l.graph ≡ map (successors l.scope) (take l.declaration-index l.declarations)
