-- No edge from the nodes so far leads to a lower rank.
use Rattle.std.proofs.Common.{◌≡◌, ℕ, ◌<◌, ◌≤◌, length, get_or}
use Rattle.digraph.specs.Cycle.{Leads}
use Rattle.digraph.proofs.ranking.is_ranking.Given as goal

abbrev pub invariant-loop-node : goal.invariant-loop-node
invariant-loop-node l = record {
  width : length l.ranks ≡ length l.graph;
  rises : (a b : ℕ) → a < l.node → Leads l.graph a b → get_or l.ranks a 0 ≤ get_or l.ranks b 0;
}
