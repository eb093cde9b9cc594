use Rattle.std.proofs.Common.{◌<◌, drop}
use Rattle.kind_law.specs.Laws.{Each}
use Rattle.kind_law.specs.Argument.{arg_span}
use Rattle.kind_sum.specs.Sum.{vars_of}
use Rattle.kind_sum.proofs.RunLaws.{Running}
use Rattle.kind_sum.proofs.total.total_of.Given as goal

abbrev pub invariant-loop-term : goal.invariant-loop-term
invariant-loop-term g l = record {
  running : Running l.terms (drop l.term-index l.terms) (arg_span l.fn.reading (g.I.Intervals.spans l.fn.intervals)) l.sum;
  below : Each (λ u. u.0 < g.I.Intervals.width l.fn.intervals) (vars_of (drop l.term-index l.terms));
  ready : Each (λ u. g.I.Intervals.ready l.fn.intervals u.0) (vars_of (drop l.term-index l.terms));
}
