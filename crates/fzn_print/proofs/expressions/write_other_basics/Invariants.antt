-- The things so far are written.
use Rattle.std.proofs.Common.{◌≡◌, ◌++◌, take}
use Rattle.fzn_print.specs.Marks.{text_of, others}
use Rattle.fzn_print.specs.Canonical.{basic_marks}
use Rattle.fzn_print.proofs.expressions.write_other_basics.Given as goal

abbrev pub invariant-loop-basic : goal.invariant-loop-basic
invariant-loop-basic l = l.out.items ≡ l.fn.out.items ++ text_of (others basic_marks (take l.basic-index l.basics))
