use Rattle.kind_bool.proofs.ClauseLaws.{clause_kept_is}
use Rattle.std.proofs.Common.{◌∙◌, ap, List}
use Rattle.kind_parts.specs.Vars.{gathered, variables_of}
use Rattle.kind_truths.specs.Operand.{arguments_of}
use Rattle.kind_truths.specs.declared.operand.Operand.{Operand}
use Rattle.kind_bool.proofs.clause.BoolClause.new.Goals as goal

pub invariant_of-result : goal.invariant_of-result
invariant_of-result c =
    clause_kept_is c.in_ok-operands.operands.items c.into_vars.result.items c.is_single-single.result c.in_ok-vars.vars
    (c.in_ok-vars.ensures ∙ ap (λ (os : List Operand). gathered (variables_of (arguments_of os))) c.as_slice.ensures.value)
    c.into_vars.ensures c.is_single-single.ensures
