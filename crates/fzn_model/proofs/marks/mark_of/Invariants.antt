-- The mark is to be found among the annotations that are left.
use Rattle.std.proofs.Common.{◌≡◌, drop}
use Rattle.fzn_model.specs.Outputs.{mark_of}
use Rattle.fzn_model.proofs.marks.mark_of.Given as goal

abbrev pub invariant-loop-annotation : goal.invariant-loop-annotation
invariant-loop-annotation l = mark_of (drop l.annotation-index l.annotations) ≡ mark_of l.annotations
