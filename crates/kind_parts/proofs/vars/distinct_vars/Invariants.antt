use Rattle.std.proofs.Common.{◌≡◌, drop}
use Rattle.kind_parts.specs.Vars.{gathered, variables_of}
use Rattle.kind_parts.proofs.VarsLaws.{gathering}
use Rattle.kind_parts.proofs.vars.distinct_vars.Given as goal

abbrev pub invariant-loop-arg : goal.invariant-loop-arg
invariant-loop-arg l = gathering l.vars (variables_of (drop l.arg-index l.args)) ≡ gathered (variables_of l.args)
