use Rattle.std.proofs.Common.{List, subst}
use Rattle.dom_cells.specs.Box.{cell_of}
use Rattle.dom_core.specs.declared.var_id.VarId.{VarId}
use Rattle.kind_law.specs.Next.{IsNext}
use Rattle.kind_truths.specs.Connective.{connective_refuted}
use Rattle.kind_truths.proofs.PlanLaws.{all_vars}
use Rattle.kind_truths.proofs.parts.Parts.next_by.Goals as goal

pub returns : goal.returns
returns c =
    subst (λ (vs : List VarId). IsNext (connective_refuted c.args.self.now) vs (cell_of c.args.cells.now.state) c.first_in_turn.result) (all_vars c.args.self.now) c.first_in_turn.ensures
