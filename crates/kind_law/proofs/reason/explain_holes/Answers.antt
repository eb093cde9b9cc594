use Rattle.std.proofs.Common.{◌∙◌, sym}
use Rattle.kind_law.proofs.ReasonLaws.{span_inside}
use Rattle.kind_law.proofs.reason.explain_holes.Goals as goal

pub returns-in-Span-clause-covers : goal.returns-in-Span-clause-covers
returns-in-Span-clause-covers c = span_inside c.args.cells.now.state c.args.var.0 c.args.out.now c.in-Span.lo c.in-Span.hi (sym c.start.ensures.start ∙ c.in-Span.is)
