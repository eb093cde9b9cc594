-- The things so far are written.
use Rattle.std.proofs.Common.{◌≡◌, ◌++◌, take}
use Rattle.fzn_print.specs.Marks.{text_of, others}
use Rattle.fzn_print.specs.Canonical.{number_marks}
use Rattle.fzn_print.proofs.numbers.write_other_numbers.Given as goal

abbrev pub invariant-loop-number : goal.invariant-loop-number
invariant-loop-number l = l.out.items ≡ l.fn.out.items ++ text_of (others number_marks (take l.number-index l.numbers))
