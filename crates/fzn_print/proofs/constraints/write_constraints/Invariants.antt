-- The things so far are written.
use Rattle.std.proofs.Common.{◌≡◌, ◌++◌, take}
use Rattle.fzn_print.specs.Marks.{text_of, each}
use Rattle.fzn_print.specs.Canonical.{constraint_marks}
use Rattle.fzn_print.proofs.constraints.write_constraints.Given as goal

abbrev pub invariant-loop-constraint : goal.invariant-loop-constraint
invariant-loop-constraint l = l.out.items ≡ l.fn.out.items ++ text_of (each constraint_marks (take l.constraint-index l.constraints))
