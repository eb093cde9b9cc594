use Rattle.std.proofs.Common.{◌<◌, sym, subst, length}
use Rattle.kind_law.specs.Argument.{ArgHas}
use Rattle.kind_law.proofs.ArgumentLaws.{each_new_arg}
use Rattle.kind_truths.specs.Connective.{connective_inputs}
use Rattle.kind_truths.specs.declared.operand.Operand.{Operand}
use Rattle.kind_truths.proofs.PlaceLaws.{none, place_has}
use Rattle.kind_truths.proofs.parts.Parts.tell_operand.Goals as goal

pub tell_certain-requires-clause-below : goal.tell_certain-requires-clause-below
tell_certain-requires-clause-below c =
    subst (λ (o : Operand). ArgHas (λ u. u.0 < length c.args.cells.now.state.starts) o.arg) (sym c.operand-operand.ensures)
    (place_has (λ u. u.0 < length c.args.cells.now.state.starts) c.args.self.now.operands c.args.place none c.requires.place
    (each_new_arg (λ u. u.0 < length c.args.cells.now.state.starts) (connective_inputs c.args.self.now) c.args.self.now.output c.requires.below).0)
