-- The things so far are written.
use Rattle.std.proofs.Common.{◌≡◌, ◌++◌, take}
use Rattle.fzn_print.specs.Marks.{text_of, each}
use Rattle.fzn_print.specs.Canonical.{annotation_marks}
use Rattle.fzn_print.proofs.annotations.write_annotations.Given as goal

abbrev pub invariant-loop-annotation : goal.invariant-loop-annotation
invariant-loop-annotation l = l.out.items ≡ l.fn.out.items ++ text_of (each annotation_marks (take l.annotation-index l.annotations))
