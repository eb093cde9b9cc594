use Rattle.std.proofs.Common.{drop, pos, ◌-ℤ◌}
use Rattle.kind_law.specs.Reason.{AddsFine}
use Rattle.kind_sum.proofs.ExplainedLaws.{PaysFront}
use Rattle.kind_sum.proofs.explained.explain_sum.Given as goal

abbrev pub invariant-loop-term : goal.invariant-loop-term
invariant-loop-term l = record {
  fine : AddsFine l.fn.cells.state l.fn.out l.out;
  front : PaysFront l.fn.excess.turned l.fn.cells.state l.fn.implied l.out l.fn.terms (drop l.term-index l.fn.terms) (pos l.fn.excess.slack -ℤ pos l.left);
}
