use Rattle.std.proofs.Common.{subst}
use Rattle.kind_law.proofs.ReasonLaws.{fine-from, adds-more}
use Rattle.kind_truths.specs.Connective.{Connective}
use Rattle.kind_truths.specs.Told.{IsToldCertain}
use Rattle.kind_truths.proofs.ToldLaws.{told_grown, all_reason}
use Rattle.kind_truths.proofs.parts.Parts.write_all.Goals as goal

pub returns : goal.returns
returns c =
    all_reason c.args.self.now c.args.cells.now.state c.args.implied c.explain_refuted.new.out c.add_implied.new.out c.width-width.ensures.sound c.requires.below c.requires.cause c.requires.var
    (fine-from c.args.cells.now.state c.args.out.now c.explain_refuted.new.out c.requires.empty
    (adds-more c.args.cells.now.state c.args.out.now c.tell_output.new.out c.explain_refuted.new.out c.in_ok-tell_output.ensures.fine c.in_ok-explain_refuted.ensures.fine))
    c.in_ok-add_implied.ensures
    (told_grown c.args.self.now.flipped c.args.cells.now.state c.args.implied c.tell_output.new.out c.explain_refuted.new.out c.args.self.now.output c.in_ok-explain_refuted.ensures.fine
    (subst (λ (k : Connective). IsToldCertain k.flipped c.args.cells.now.state c.args.implied c.tell_output.new.out c.args.self.now.output) c.self.view_is c.in_ok-tell_output.ensures.told))
    c.in_ok-explain_refuted.ensures.told
