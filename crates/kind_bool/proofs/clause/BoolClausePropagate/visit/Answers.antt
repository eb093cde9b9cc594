use Rattle.std.proofs.Common.{subst, ℕ, Bool, length, IfOk}
use Rattle.dom_cells.specs.Box.{cell_of}
use Rattle.dom_cells.specs.declared.start.Start.{Start}
use Rattle.kind_law.specs.Visit.{IsVisited}
use Rattle.kind_truths.specs.Operand.{operand_vars}
use Rattle.kind_truths.specs.Connective.{Connective, connective_refuted, connective_vars}
use Rattle.kind_bool.proofs.ClauseLaws.{clause_truth}
use Rattle.kind_bool.proofs.clause.BoolClausePropagate.visit.Goals as goal

pub returns-clause-visited : goal.returns-clause-visited
returns-clause-visited c =
    subst (λ (refuted : (ℕ → Start) → Bool). IfOk c.visit.result (λ v. IsVisited refuted (operand_vars c.args.self.now) (cell_of c.args.cells.now.state) (length c.args.cells.now.state.starts) v c.visit.new.ends)) (clause_truth c.args.self.now)
    (subst (λ (k : Connective). IfOk c.visit.result (λ v. IsVisited (connective_refuted k) (connective_vars k) (cell_of c.args.cells.now.state) (length c.args.cells.now.state.starts) v c.visit.new.ends)) c.parts.ensures c.visit.ensures.visited)
