-- Clauses: one of the operands is true.
use Rattle.std.specs.Prelude.{Bool, not, ◌||◌, List, ℕ, ℤ}
use Rattle.std.specs.List.{list_any, list_all}
use Rattle.dom_core.specs.declared.view.Movement.{Movement}
use Rattle.dom_cells.specs.declared.start.Start.{Start}
use Rattle.kind_law.specs.Laws.{hulls, afters}
use Rattle.kind_truths.specs.Operand.{operand_true, operand_certain, operand_refuted, operand_falls}
use Rattle.kind_truths.specs.declared.operand.Operand.{Operand}

-- some operand is true
abbrev pub clause_met : List Operand → List ℤ → Bool
clause_met os a = list_any (operand_true a) os

-- each operand is false all over the box
abbrev pub clause_refuted : List Operand → (ℕ → Start) → Bool
clause_refuted os b = list_all (operand_refuted (hulls b)) os

-- some operand is true afterwards whatever happens, or none falls
abbrev pub clause_kept : List Operand → List Movement → Bool
clause_kept os view = list_any (operand_certain (afters view)) os || not (list_any (operand_falls view) os)
