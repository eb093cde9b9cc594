use Rattle.std.proofs.Common.{length, ◌∙◌, sym}
use Rattle.dom_cells.specs.Box.{cell_of}
use Rattle.kind_law.proofs.VisitLaws.{nothing_left, plain_batch}
use Rattle.kind_law.proofs.visit.visit_of.Goals as goal

pub returns-clause-visited : goal.returns-clause-visited
returns-clause-visited g c =
    plain_batch (g.K.Kind.refuted c.args.kind.now) (g.K.Kind.vars c.args.kind.now) (cell_of c.args.cells.now.state) (length c.args.cells.now.state.starts)
    c.write_ends.new.ends c.is_empty.result (sym c.refutes.ensures.refuted ∙ c.if-refutes.false) c.in_default.ensures
    (nothing_left c.write_ends.new.ends c.literals.result.now c.is_empty.result c.literals.ensures c.is_empty.ensures)
