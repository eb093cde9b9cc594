use Rattle.std.proofs.Common.{refl}
use Rattle.kind_law.proofs.ReasonLaws.{adds-more}
use Rattle.kind_truths.specs.Operand.{operand_at}
use Rattle.kind_truths.proofs.ToldLaws.{told_more}
use Rattle.kind_truths.proofs.parts.Parts.explain_refuted.Goals as goal

pub loop-at-preserved : goal.loop-at-preserved
loop-at-preserved c = record {
  fine = adds-more c.args.cells.now.state c.args.out.now c.loop-at.out c.tell_operand.new.out c.loop-at.invariant.fine c.in_ok-tell_operand.ensures.fine;
  told = told_more c.args.cells.now.state c.args.implied c.args.self.now.operands c.loop-at.at c.loop-at.out c.tell_operand.new.out (operand_at c.args.self.now.operands c.loop-at.at)
      c.in_ok-tell_operand.ensures.fine refl c.loop-at.invariant.told c.in_ok-tell_operand.ensures.told;
}
