use Rattle.kind_law.specs.Reason.{AddsFine}
use Rattle.kind_truths.specs.Told.{AreToldRefuted}
use Rattle.kind_truths.proofs.parts.Parts.explain_refuted.Given as goal

abbrev pub invariant-loop-at : goal.invariant-loop-at
invariant-loop-at l = record {
  fine : AddsFine l.fn.cells.state l.fn.out l.out;
  told : AreToldRefuted l.fn.cells.state l.fn.implied l.out l.fn.self.operands l.at;
}
