-- The things so far are written.
use Rattle.std.proofs.Common.{◌≡◌, ◌++◌, take}
use Rattle.fzn_print.specs.Marks.{text_of, each}
use Rattle.fzn_print.specs.Canonical.{predicate_marks}
use Rattle.fzn_print.proofs.predicates.write_predicates.Given as goal

abbrev pub invariant-loop-predicate : goal.invariant-loop-predicate
invariant-loop-predicate l = l.out.items ≡ l.fn.out.items ++ text_of (each predicate_marks (take l.predicate-index l.predicates))
