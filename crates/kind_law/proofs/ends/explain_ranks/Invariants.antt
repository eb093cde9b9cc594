use Rattle.kind_law.specs.Reason.{AddsFine, CoversRanks}
use Rattle.kind_law.proofs.ends.explain_ranks.Given as goal

abbrev pub invariant-loop-at : goal.invariant-loop-at
invariant-loop-at l = record {
  fine : AddsFine l.cells.state l.fn.out l.out;
  covers : CoversRanks l.cells.state l.out l.var.0 l.domain l.first l.at;
}
