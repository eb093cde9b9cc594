use Rattle.std.proofs.Common.{subst, ℕ, Bool}
use Rattle.dom_cells.specs.Box.{cell_of}
use Rattle.dom_cells.specs.declared.start.Start.{Start}
use Rattle.kind_law.specs.Next.{IsNext}
use Rattle.kind_truths.specs.Operand.{operand_vars}
use Rattle.kind_truths.specs.Connective.{Connective, connective_refuted, connective_vars}
use Rattle.kind_bool.proofs.ClauseLaws.{clause_truth}
use Rattle.kind_bool.proofs.clause.BoolClausePropagate.next.Goals as goal

pub returns : goal.returns
returns c =
    subst (λ (refuted : (ℕ → Start) → Bool). IsNext refuted (operand_vars c.args.self.now) (cell_of c.args.cells.now.state) c.next.result) (clause_truth c.args.self.now)
    (subst (λ (k : Connective). IsNext (connective_refuted k) (connective_vars k) (cell_of c.args.cells.now.state) c.next.result) c.parts.ensures c.next.ensures)
