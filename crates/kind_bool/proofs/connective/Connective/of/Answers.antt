use Rattle.std.proofs.Common.{◌∙◌, ◌&&◌, ap, List}
use Rattle.dom_core.specs.declared.var_id.VarId.{VarId}
use Rattle.kind_law.specs.Argument.{with_new_arg, is_new}
use Rattle.kind_parts.specs.Vars.{gathered, variables_of}
use Rattle.kind_truths.specs.Operand.{arguments_of}
use Rattle.kind_truths.specs.declared.operand.Operand.{Operand}
use Rattle.kind_bool.proofs.ClauseLaws.{connective_kept_is}
use Rattle.kind_bool.proofs.connective.Connective.of.Goals as goal

pub invariant_of-result : goal.invariant_of-result
invariant_of-result g c =
    connective_kept_is (record { operands = c.args.operands.items; flipped = c.args.flipped; output = c.args.output })
    c.into_vars-inputs.result.items c.in_ok-vars.vars.items c.is_single-single.result c.is_single-single-2.result c.in_ok-inputs.inputs
    (c.in_ok-inputs.ensures ∙ ap (λ (os : List Operand). gathered (variables_of (arguments_of os))) c.as_slice.ensures.value)
    c.into_vars-inputs.ensures
    (c.in_ok-vars.ensures ∙ ap (λ (vs : List VarId). with_new_arg vs c.args.output) c.as_slice-2.ensures.value)
    c.is_single-single.ensures
    (c.is_single-single-2.ensures ∙ ap (λ (vs : List VarId). c.is_single-single.result && is_new vs c.args.output) c.as_slice-3.ensures.value)
