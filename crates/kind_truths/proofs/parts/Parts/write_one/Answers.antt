use Rattle.std.proofs.Common.{not, refl, subst}
use Rattle.kind_law.proofs.ReasonLaws.{fine-from, adds-more}
use Rattle.kind_truths.specs.Connective.{Connective}
use Rattle.kind_truths.specs.Operand.{operand_at}
use Rattle.kind_truths.specs.Told.{IsToldCertain}
use Rattle.kind_truths.proofs.ToldLaws.{told_grown, one_reason}
use Rattle.kind_truths.proofs.parts.Parts.write_one.Goals as goal

pub returns : goal.returns
returns c =
    one_reason c.args.self.now c.args.cells.now.state c.args.implied c.tell_operand.new.out c.add_implied.new.out c.args.place (operand_at c.args.self.now.operands c.args.place)
    c.width-width.ensures.sound c.requires.below c.requires.cause c.requires.var
    (fine-from c.args.cells.now.state c.args.out.now c.tell_operand.new.out c.requires.empty
    (adds-more c.args.cells.now.state c.args.out.now c.tell_output.new.out c.tell_operand.new.out c.in_ok-tell_output.ensures.fine c.in_ok-tell_operand.ensures.fine))
    c.in_ok-add_implied.ensures c.requires.one.operand.within refl
    (told_grown (not c.args.self.now.flipped) c.args.cells.now.state c.args.implied c.tell_output.new.out c.tell_operand.new.out c.args.self.now.output c.in_ok-tell_operand.ensures.fine
    (subst (λ (k : Connective). IsToldCertain (not k.flipped) c.args.cells.now.state c.args.implied c.tell_output.new.out c.args.self.now.output) c.self.view_is c.in_ok-tell_output.ensures.told))
    c.in_ok-tell_operand.ensures.told
