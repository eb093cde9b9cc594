use Rattle.std.proofs.Common.{◌≡◌, drop}
use Rattle.kind_law.specs.Argument.{is_listed}
use Rattle.kind_sum.specs.Sum.{vars_of}
use Rattle.kind_sum.proofs.terms.is_read.Given as goal

abbrev pub invariant-loop-term : goal.invariant-loop-term
invariant-loop-term l = is_listed l.fn.var (vars_of l.terms) ≡ is_listed l.fn.var (vars_of (drop l.term-index l.terms))
