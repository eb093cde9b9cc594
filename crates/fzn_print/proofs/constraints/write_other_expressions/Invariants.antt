-- The things so far are written.
use Rattle.std.proofs.Common.{◌≡◌, ◌++◌, take}
use Rattle.fzn_print.specs.Marks.{text_of, others}
use Rattle.fzn_print.specs.Canonical.{expression_marks}
use Rattle.fzn_print.proofs.constraints.write_other_expressions.Given as goal

abbrev pub invariant-loop-expression : goal.invariant-loop-expression
invariant-loop-expression l = l.out.items ≡ l.fn.out.items ++ text_of (others expression_marks (take l.expression-index l.expressions))
