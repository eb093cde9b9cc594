use Rattle.std.proofs.Common.{◌≡◌, drop}
use Rattle.kind_parts.specs.Vars.{gathered}
use Rattle.kind_parts.proofs.VarsLaws.{gathering}
use Rattle.kind_sum.specs.Sum.{vars_of}
use Rattle.kind_sum.proofs.terms.term_vars.Given as goal

abbrev pub invariant-loop-term : goal.invariant-loop-term
invariant-loop-term l = gathering l.vars (vars_of (drop l.term-index l.terms)) ≡ gathered (vars_of l.terms)
