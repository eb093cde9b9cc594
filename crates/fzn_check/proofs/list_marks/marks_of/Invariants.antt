-- The marks so far are those of the declarations.
use Rattle.std.proofs.Common.{◌≡◌, ◌<◌, ℕ, length, slice_get, Some}
use Rattle.fzn_syntax.specs.declared.declaration.Declaration.{Declaration}
use Rattle.fzn_check.specs.ListMarks.{IsMarkOf, mark_at}
use Rattle.fzn_check.proofs.list_marks.marks_of.Given as goal

abbrev pub invariant-loop-declaration : goal.invariant-loop-declaration
invariant-loop-declaration l = record {
  size : length l.marks.items ≡ l.declaration-index;
  are : (k : ℕ) (d : Declaration) → k < l.declaration-index → slice_get l.values k ≡ Some d → IsMarkOf l.values d (mark_at l.marks.items k);
}
