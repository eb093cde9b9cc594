-- The entries so far have led to their edges.
use Rattle.std.proofs.Common.{◌≡◌, ◌<◌, length, take, flat_map}
use Rattle.fzn_check.specs.Edges.{with_edges}
use Rattle.fzn_check.specs.Places.{named_by}
use Rattle.fzn_check.proofs.graph.add_entries.Given as goal

abbrev pub invariant-loop-basic : goal.invariant-loop-basic
invariant-loop-basic l = record {
  some : 0 < length l.graph;
  edges : l.graph ≡ with_edges l.initial.graph (flat_map (named_by l.scope) (take l.basic-index l.basics));
}
