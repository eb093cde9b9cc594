-- The nodes so far are met.
use Rattle.std.proofs.Common.{◌≡◌, take}
use Rattle.digraph.specs.Met.{met_with_all}
use Rattle.digraph.proofs.search.Search.meet_all.Given as goal

abbrev pub invariant-loop-node : goal.invariant-loop-node
invariant-loop-node l = l.self ≡ met_with_all l.fn.self (take l.node-index l.nodes)
