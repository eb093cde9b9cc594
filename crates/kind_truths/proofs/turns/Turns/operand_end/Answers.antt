use Rattle.std.proofs.Common.{◌∙◌, ap, sym, subst, Bool, length}
use Rattle.kind_truths.specs.Operand.{turned, operand_at}
use Rattle.kind_truths.specs.Plan.{IsAnswered}
use Rattle.kind_truths.specs.declared.operand.Operand.{Operand}
use Rattle.kind_truths.specs.declared.probe.Test.TheVariants.{Certain}
use Rattle.kind_truths.proofs.PlanLaws.{operand_reads, told_var}
use Rattle.kind_truths.proofs.turns.Turns.operand_end.Goals as goal

pub end_by-requires-clause-var : goal.end_by-requires-clause-var
end_by-requires-clause-var c =
    operand_reads c.args.self.now.parts.now (length c.args.cells.now.state.starts) c.args.place c.in-Var.var c.requires.place (sym (ap (λ (o : Operand). o.arg) c.operand-operand.ensures) ∙ c.in-Var.is) c.requires.below

pub end_by-requires-clause-answers : goal.end_by-requires-clause-answers
end_by-requires-clause-answers c =
    subst (λ (n : Bool). IsAnswered c.args.self.now.parts.now c.args.cells.now.state (Certain n) c.in-Var.var)
    (sym (c.turned-negated.ensures ∙ ap (λ (o : Operand). turned c.args.flipped o.negated) c.operand-operand.ensures))
    (told_var c.args.self.now.parts.now c.args.cells.now.state c.args.place (turned c.args.flipped (operand_at c.args.self.now.parts.now.operands c.args.place).negated) c.in-Var.var c.requires.place c.requires.below
    (sym (ap (λ (o : Operand). o.arg) c.operand-operand.ensures) ∙ c.in-Var.is) c.requires.told)
