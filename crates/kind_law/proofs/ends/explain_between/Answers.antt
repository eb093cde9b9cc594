use Rattle.std.proofs.Common.{◌∙◌, sym, w64}
use Rattle.std.proofs.lemmas.Int.{to_z-of_z}
use Rattle.dom_core.specs.Rises.{IsRank}
use Rattle.kind_law.proofs.ReasonLaws.{span_inside}
use Rattle.kind_law.proofs.EndLaws.{between_from_inside, between_from_ranks}
use Rattle.kind_law.proofs.ends.explain_between.Goals as goal

pub returns-in-Span-clause-covers : goal.returns-in-Span-clause-covers
returns-in-Span-clause-covers c =
    between_from_inside c.args.cells.now.state c.args.out.now c.args.var.0 c.args.begin c.args.end
    (span_inside c.args.cells.now.state c.args.var.0 c.args.out.now _ _ (sym c.start.ensures.start ∙ c.in-Span.is))

pub returns-in_ok-explain_ranks-in-Values-clause-covers : goal.returns-in_ok-explain_ranks-in-Values-clause-covers
returns-in_ok-explain_ranks-in-Values-clause-covers c =
    let first : IsRank c.in-Values.domain c.args.begin c.rank-first.result = rw (to_z-of_z w64 c.args.begin c.ranges.begin) at c.rank-first.ensures.rank in
    let last : IsRank c.in-Values.domain c.args.end c.rank-last.result = rw (to_z-of_z w64 c.args.end c.ranges.end) at c.rank-last.ensures.rank in
    between_from_ranks c.args.cells.now.state c.explain_ranks.new.out c.args.var.0 c.in-Values.domain c.args.begin c.args.end c.rank-first.result c.rank-last.result
    (sym c.start.ensures.start ∙ c.in-Values.is) first last c.in_ok-explain_ranks-in-Values.ensures.covers
