use Rattle.std.proofs.Common.{◌∙◌, true, ap, sym, subst, ◌<◌, length}
use Rattle.dom_core.specs.declared.view.Movement.{Movement}
use Rattle.kind_law.specs.Argument.{ArgHas, arg_movement}
use Rattle.kind_law.specs.Function.{function_kept}
use Rattle.kind_law.specs.Output.{moved}
use Rattle.kind_law.proofs.ArgumentLaws.{each_new_arg}
use Rattle.kind_truths.specs.Connective.{Connective, connective_inputs, connective_range, connective_changed}
use Rattle.kind_bool.proofs.connective.ConnectiveKind.keeps.Goals as goal

pub movement-truth-requires : goal.movement-truth-requires
movement-truth-requires g c = (each_new_arg (λ u. u.0 < length c.args.view.now) (connective_inputs c.args.self.now) c.args.self.now.output c.requires.below).0

pub movement_of-output-requires : goal.movement_of-output-requires
movement_of-output-requires g c =
    subst (ArgHas (λ u. u.0 < length c.args.view.now)) (sym (ap (λ (k : Connective). k.output) c.self.view_is))
    (each_new_arg (λ u. u.0 < length c.args.view.now) (connective_inputs c.args.self.now) c.args.self.now.output c.requires.below).1

pub returns : goal.returns
returns g c =
    c.is_function_kept.ensures
    ∙ ap (λ (t : Movement). function_kept true t c.movement_of-output.result) c.movement-truth.ensures
    ∙ ap (function_kept true (moved (connective_range c.args.self.now) (connective_changed c.args.self.now) c.args.view.now))
    (c.movement_of-output.ensures ∙ ap (λ (k : Connective). arg_movement c.args.view.now k.output) c.self.view_is)
