-- Literals: a variable compared with a number.
use Rattle.std.specs.Prelude.{Bool, true, false, not, ◌||◌, List, [], ◌∷◌, ℤ, pos, ◌+ℤ◌, ◌-ℤ◌, int_le}
use Rattle.std.specs.Ordering.{int_eq}
use Rattle.dom_core.specs.Assignment.{value_at}
use Rattle.dom_core.specs.declared.literal.Literal.{Literal}
use Rattle.dom_core.specs.declared.literal.Rel.{Rel}
use Rattle.dom_core.specs.declared.literal.Rel.TheVariants.{Le, Ge, Eq, Ne}

-- the value stands in this relation to the number
abbrev pub is_related : Rel → ℤ → ℤ → Bool
is_related Le x v = int_le x v
is_related Ge x v = int_le v x
is_related Eq x v = int_eq x v
is_related Ne x v = not (int_eq x v)

-- the literal holds of this value of its variable
abbrev pub holds_at : Literal → ℤ → Bool
holds_at l x = is_related l.rel x l.value

-- the relation that holds where this one does not
abbrev pub opposite : Rel → Rel
opposite Le = Ge
opposite Ge = Le
opposite Eq = Ne
opposite Ne = Eq

-- the number that the opposite relation compares with
abbrev pub opposite_value : Rel → ℤ → ℤ
opposite_value Le v = v +ℤ pos 1
opposite_value Ge v = v -ℤ pos 1
opposite_value Eq v = v
opposite_value Ne v = v

-- the literal that holds of the other values
abbrev pub negation : Literal → Literal
negation l = record { var = l.var; rel = opposite l.rel; value = opposite_value l.rel l.value }

-- the relation bounds a value by one end
abbrev pub is_end : Rel → Bool
is_end Le = true
is_end Ge = true
is_end Eq = false
is_end Ne = false

-- the clause holds at the assignment: one of its literals does
abbrev pub is_satisfied : List Literal → List ℤ → Bool
is_satisfied [] a = false
is_satisfied (l ∷ ls) a = holds_at l (value_at a l.var) || is_satisfied ls a
