use Rattle.std.proofs.Common.{length}
use Rattle.dom_cells.specs.Box.{cell_of}
use Rattle.kind_reified.specs.LinearReified.{reified_refuted, reified_vars}
use Rattle.kind_law.proofs.VisitLaws.{nothing_left, plain_batch}
use Rattle.kind_reified.proofs.truth_next.TruthSpans.tell_ends.Goals as goal

pub returns-clause-visited : goal.returns-clause-visited
returns-clause-visited c =
    plain_batch (reified_refuted (record { sum = c.args.self.now.linear.now; output = c.args.self.now.output })) (reified_vars (record { sum = c.args.self.now.linear.now; output = c.args.self.now.output })) (cell_of c.args.cells.now.state) (length c.args.cells.now.state.starts) c.write_ends.new.ends c.is_empty.result
    c.requires.standing.quiet c.in_default.ensures (nothing_left c.write_ends.new.ends c.literals.result.now c.is_empty.result c.literals.ensures c.is_empty.ensures)
