use Rattle.std.proofs.Common.{ℕ, ◌<◌, get_or, pos}
use Rattle.kind_law.specs.Reason.{AddsFine, CoversValue}
use Rattle.kind_law.proofs.reason.explain_values.Given as goal

abbrev pub invariant-loop-at : goal.invariant-loop-at
invariant-loop-at l = record {
  fine : AddsFine l.cells.state l.fn.out l.out;
  covers : (k : ℕ) → k < l.at → CoversValue l.cells.state l.out l.var.0 (get_or l.domain k (pos 0));
}
