use Rattle.std.proofs.Common.{sym, subst, length}
use Rattle.dom_cells.specs.Box.{cell_of}
use Rattle.kind_law.specs.Visit.{AreEnds}
use Rattle.kind_law.proofs.BoundLaws.{box-sane}
use Rattle.kind_reified.specs.LinearReified.{reified_refuted, reified_vars}
use Rattle.kind_reified.proofs.OpenLaws.{ends_with_output}
use Rattle.kind_reified.proofs.truth_next.TruthSpans.write_ends.Goals as goal

pub returns : goal.returns
returns c =
    subst (AreEnds (reified_refuted (record { sum = c.args.self.now.linear.now; output = c.args.self.now.output })) (reified_vars (record { sum = c.args.self.now.linear.now; output = c.args.self.now.output })) (cell_of c.args.cells.now.state) (length c.args.cells.now.state.starts)) (sym c.in_ok-add_implied.ensures)
    (ends_with_output (record { sum = c.args.self.now.linear.now; output = c.args.self.now.output }) (cell_of c.args.cells.now.state) (length c.args.cells.now.state.starts) c.write_term_ends.new.out c.output_end-end.result c.requires.standing.single c.requires.standing.below
    (box-sane c.args.cells.now.state (reified_vars (record { sum = c.args.self.now.linear.now; output = c.args.self.now.output })) c.width-width.ensures.sound c.requires.standing.below)
    c.in_ok-write_term_ends.ensures c.output_end-end.ensures)
