-- Which annotations are right at an array of variables.
use Rattle.std.specs.Prelude.{◌≡◌, ℕ, ℤ, pos}
use Rattle.std.specs.List.{All}
use Rattle.fzn_syntax.specs.declared.annotation.Annotation.{Annotation}
use Rattle.fzn_syntax.specs.declared.declaration.VariableArray.{VariableArray}
use Rattle.fzn_output_marks.specs.Marks.{MarksArray}
use Rattle.fzn_output_marks.specs.Sets.{HasRightSets}

-- the annotation gives the index sets of an array with this last index
abbrev pub IndexesArray : ℤ → Annotation → Type 0
IndexesArray last a = (n : ℕ) × (last ≡ pos n) × HasRightSets a n

-- where the annotation marks an array for printing, it gives index sets of this one
abbrev pub IsOutputArrayOf : ℤ → Annotation → Type 0
IsOutputArrayOf last a = MarksArray a → IndexesArray last a

-- each annotation of the array that marks an array for printing gives index sets of this one
abbrev pub AreOutputArraysOf : VariableArray → Type 0
AreOutputArraysOf a = All (IsOutputArrayOf a.index.last) a.annotations
