use Rattle.std.proofs.Common.{◌<◌, ap, sym, subst, length}
use Rattle.kind_law.specs.Argument.{ArgHas}
use Rattle.kind_law.proofs.ArgumentLaws.{each_new_arg}
use Rattle.kind_truths.specs.Connective.{Connective, connective_inputs}
use Rattle.kind_truths.proofs.parts.Parts.tell_output.Goals as goal

pub tell_certain-requires-clause-below : goal.tell_certain-requires-clause-below
tell_certain-requires-clause-below c =
    subst (ArgHas (λ u. u.0 < length c.args.cells.now.state.starts)) (sym (ap (λ (k : Connective). k.output) c.self.view_is))
    (each_new_arg (λ u. u.0 < length c.args.cells.now.state.starts) (connective_inputs c.args.self.now) c.args.self.now.output c.requires.below).1
