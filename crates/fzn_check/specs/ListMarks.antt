-- Which lists of declarations are of integers that are different.
use Rattle.std.specs.Prelude.{◌≡◌, ◌↔◌, ℕ, Bool, false, List, slice_get, slice_index_or, Some, IsTrue}
use Rattle.fzn_syntax.specs.declared.declaration.Declaration.{Declaration}
use Rattle.fzn_syntax.specs.declared.expression.Basic.{Basic}
use Rattle.fzn_syntax.specs.declared.expression.Expression.TheVariants as expressions
use Rattle.fzn_values.specs.declared.literal.LiteralKind.TheVariants as literals
use Rattle.fzn_values.specs.Literals.{value_for}
use Rattle.fzn_check.specs.Shapes.{HasDifferent}

-- no list is written as the declaration's value
abbrev pub HasNoList : Declaration → Type 0
HasNoList d = (bs : List Basic) → value_for literals.List d ≡ Some (expressions.List bs) → ⊥

-- the mark says whether the list that is written as the declaration's value is of integers that are different
abbrev pub IsMarkOf : List Declaration → Declaration → Bool → Type 0
IsMarkOf ds d mark = (bs : List Basic) → value_for literals.List d ≡ Some (expressions.List bs) → IsTrue mark ↔ HasDifferent ds (expressions.List bs)

-- the mark of the declaration at this place
abbrev pub mark_at : List Bool → ℕ → Bool
mark_at marks k = slice_index_or marks k false

-- each declaration has its mark
abbrev pub AreMarks : List Declaration → List Bool → Type 0
AreMarks ds marks = (k : ℕ) (d : Declaration) → slice_get ds k ≡ Some d → IsMarkOf ds d (mark_at marks k)
