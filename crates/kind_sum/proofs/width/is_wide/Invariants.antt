use Rattle.std.proofs.Common.{◌<◌, ◌^◌, drop}
use Rattle.kind_law.specs.Argument.{arg_ends}
use Rattle.kind_law.specs.Laws.{Each, EndsIn, small_ends}
use Rattle.kind_sum.specs.Sum.{vars_of}
use Rattle.kind_sum.proofs.WidthLaws.{Spent}
use Rattle.kind_sum.proofs.width.is_wide.Given as goal

abbrev pub invariant-loop-term : goal.invariant-loop-term
invariant-loop-term g l = record {
  spent : Spent l.terms (drop l.term-index l.terms) (arg_ends (g.I.Intervals.spans l.fn.intervals)) (2 ^ 100) l.left;
  below : Each (λ u. u.0 < g.I.Intervals.width l.fn.intervals) (vars_of (drop l.term-index l.terms));
  ready : Each (λ u. g.I.Intervals.ready l.fn.intervals u.0) (vars_of (drop l.term-index l.terms));
  small : Each (λ u. EndsIn (g.I.Intervals.spans l.fn.intervals u.0) small_ends) (vars_of (drop l.term-index l.terms));
}
