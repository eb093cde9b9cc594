use Rattle.std.proofs.Common.{◌∙◌, ap, not, List, Bool}
use Rattle.std.specs.List.{list_any}
use Rattle.kind_truths.specs.Connective.{Connective, move_ends, connective_own_change}
use Rattle.kind_truths.specs.Operand.{operand_moves}
use Rattle.kind_truths.specs.declared.operand.Operand.{Operand}
use Rattle.kind_bool.proofs.ClauseLaws.{moves_turned}
use Rattle.kind_bool.proofs.connective.Connective.moves.Goals as goal

pub returns : goal.returns
returns g c =
    c.move_of.ensures
    ∙ ap (λ (t : Bool). move_ends t c.some_moves-rises.result) (c.some_moves-falls.ensures ∙ ap (λ (os : List Operand). list_any (operand_moves c.self.inside.flipped c.args.view.now) os) c.as_slice.ensures.value)
    ∙ ap (λ (t : Bool). move_ends (list_any (operand_moves c.self.inside.flipped c.args.view.now) c.self.inside.operands.items) t)
    (c.some_moves-rises.ensures ∙ ap (λ (os : List Operand). list_any (operand_moves (not c.self.inside.flipped) c.args.view.now) os) c.as_slice-2.ensures.value)
    ∙ moves_turned c.self.inside.flipped c.args.view.now c.self.inside.operands.items
    ∙ ap (λ (k : Connective). connective_own_change k c.args.view.now) c.self.view_is
