use Rattle.std.proofs.Common.{rules, arith, FitsSigned, w64}
use Rattle.std.proofs.lemmas.Int.{to_z-of_z}
use Rattle.dom_cells.specs.Box.{start_at}
use Rattle.kind_law.specs.Reason.{AddsFine, CoversValue}
use Rattle.kind_law.proofs.ReasonLaws.{adds-more, listed_at, inside_from_values, values-step}
use Rattle.kind_law.proofs.reason.explain_values.Goals as goal

pub explain_value-requires-clause-start : goal.explain_value-requires-clause-start
explain_value-requires-clause-start c =
    let fits : FitsSigned w64 c.value_at-value.result = search rules in
    rw (to_z-of_z w64 c.value_at-value.result fits) (listed_at (start_at c.args.cells.now.state.starts c.args.var.0) c.args.domain.now c.loop-at.at c.value_at-value.result c.requires.start c.value_at-value.ensures)

pub loop-at-preserved : goal.loop-at-preserved
loop-at-preserved c =
    let fits : FitsSigned w64 c.value_at-value.result = search rules in
    let here : CoversValue c.args.cells.now.state c.explain_value.new.out c.args.var.0 c.value_at-value.result = rw (to_z-of_z w64 c.value_at-value.result fits) at c.in_ok-explain_value.ensures.covers in
    let more : AddsFine c.args.cells.now.state c.loop-at.out c.explain_value.new.out = c.in_ok-explain_value.ensures.fine in
    record {
      fine = adds-more c.args.cells.now.state c.args.out.now c.loop-at.out c.explain_value.new.out c.loop-at.invariant.fine more;
      covers = values-step c.args.cells.now.state c.args.var.0 c.loop-at.out c.explain_value.new.out c.args.domain.now c.loop-at.at c.value_at-value.result more c.value_at-value.ensures c.loop-at.invariant.covers here;
    }

pub returns-clause-covers : goal.returns-clause-covers
returns-clause-covers c =
    inside_from_values c.args.cells.now.state c.args.var.0 c.loop-at.out c.args.domain.now c.loop-at.at c.requires.start (omega (arith, c.size-at-end.ensures.size)) c.loop-at.invariant.covers
