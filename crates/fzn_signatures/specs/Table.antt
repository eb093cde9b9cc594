-- The constraints that a text may post.
use Rattle.std.specs.Prelude.{◌≡◌, ℕ, List, [], ◌∷◌, Some, slice_get, codes}
use Rattle.fzn_signatures.specs.declared.argument_type.ArgumentType.{ArgumentType}
use Rattle.fzn_signatures.specs.declared.argument_type.ArgumentType.TheVariants.{ConstantInteger, Set, ConstantIntegerArray, ConstantBooleanArray, Integer, Boolean, IntegerArray, BooleanArray}
use Rattle.fzn_signatures.specs.declared.shape.Comparison.TheVariants as comparison
use Rattle.dom_core.specs.declared.relation.Relation.TheVariants as relation
use Rattle.fzn_signatures.specs.declared.shape.Shape.{Shape}
use Rattle.fzn_signatures.specs.declared.shape.Shape.TheVariants.{Linear, LinearReified, Compared, ComparedReified, Negation, Conversion, Sum, Clause, ClauseReified, Conjunction, Disjunction, And, Or, Xor, Product, Maximum, Minimum, AbsoluteValue, Element, Membership, MembershipReified, AllDifferent, Count, Among, AtMost, AtLeast, Cardinality}

-- a constraint's name, the types of its arguments in order and what it says of them
pub record Entry : Type 0 where
  pub name : List ℕ
  pub arguments : List ArgumentType
  pub shape : Shape

-- an entry by its parts
abbrev pub entry : List ℕ → List ArgumentType → Shape → Entry
entry name arguments shape = record { name = name; arguments = arguments; shape = shape }

-- every constraint there is, by the order of the names' bytes
abbrev pub table : List Entry
table =
    entry (codes "array_bool_and") (BooleanArray ∷ Boolean ∷ []) Conjunction
    ∷ entry (codes "array_bool_element") (Integer ∷ ConstantBooleanArray ∷ Boolean ∷ []) Element
    ∷ entry (codes "array_bool_or") (BooleanArray ∷ Boolean ∷ []) Disjunction
    ∷ entry (codes "array_int_element") (Integer ∷ ConstantIntegerArray ∷ Integer ∷ []) Element
    ∷ entry (codes "bool2int") (Boolean ∷ Integer ∷ []) Conversion
    ∷ entry (codes "bool_and") (Boolean ∷ Boolean ∷ Boolean ∷ []) And
    ∷ entry (codes "bool_clause") (BooleanArray ∷ BooleanArray ∷ []) Clause
    ∷ entry (codes "bool_clause_reif") (BooleanArray ∷ BooleanArray ∷ Boolean ∷ []) ClauseReified
    ∷ entry (codes "bool_eq") (Boolean ∷ Boolean ∷ []) (Compared comparison.Equal)
    ∷ entry (codes "bool_eq_reif") (Boolean ∷ Boolean ∷ Boolean ∷ []) (ComparedReified comparison.Equal)
    ∷ entry (codes "bool_le") (Boolean ∷ Boolean ∷ []) (Compared comparison.AtMost)
    ∷ entry (codes "bool_le_reif") (Boolean ∷ Boolean ∷ Boolean ∷ []) (ComparedReified comparison.AtMost)
    ∷ entry (codes "bool_lt") (Boolean ∷ Boolean ∷ []) (Compared comparison.Below)
    ∷ entry (codes "bool_lt_reif") (Boolean ∷ Boolean ∷ Boolean ∷ []) (ComparedReified comparison.Below)
    ∷ entry (codes "bool_not") (Boolean ∷ Boolean ∷ []) Negation
    ∷ entry (codes "bool_or") (Boolean ∷ Boolean ∷ Boolean ∷ []) Or
    ∷ entry (codes "bool_xor") (Boolean ∷ Boolean ∷ Boolean ∷ []) Xor
    ∷ entry (codes "fzn_all_different_int") (IntegerArray ∷ []) AllDifferent
    ∷ entry (codes "fzn_among") (Integer ∷ IntegerArray ∷ Set ∷ []) Among
    ∷ entry (codes "fzn_at_least_int") (ConstantInteger ∷ IntegerArray ∷ ConstantInteger ∷ []) AtLeast
    ∷ entry (codes "fzn_at_most_int") (ConstantInteger ∷ IntegerArray ∷ ConstantInteger ∷ []) AtMost
    ∷ entry (codes "fzn_count_eq") (IntegerArray ∷ ConstantInteger ∷ Integer ∷ []) Count
    ∷ entry (codes "fzn_global_cardinality") (IntegerArray ∷ ConstantIntegerArray ∷ IntegerArray ∷ []) Cardinality
    ∷ entry (codes "int_abs") (Integer ∷ Integer ∷ []) AbsoluteValue
    ∷ entry (codes "int_eq") (Integer ∷ Integer ∷ []) (Compared comparison.Equal)
    ∷ entry (codes "int_eq_reif") (Integer ∷ Integer ∷ Boolean ∷ []) (ComparedReified comparison.Equal)
    ∷ entry (codes "int_le") (Integer ∷ Integer ∷ []) (Compared comparison.AtMost)
    ∷ entry (codes "int_le_reif") (Integer ∷ Integer ∷ Boolean ∷ []) (ComparedReified comparison.AtMost)
    ∷ entry (codes "int_lin_eq") (ConstantIntegerArray ∷ IntegerArray ∷ ConstantInteger ∷ []) (Linear relation.Equal)
    ∷ entry (codes "int_lin_eq_reif") (ConstantIntegerArray ∷ IntegerArray ∷ ConstantInteger ∷ Boolean ∷ []) (LinearReified relation.Equal)
    ∷ entry (codes "int_lin_le") (ConstantIntegerArray ∷ IntegerArray ∷ ConstantInteger ∷ []) (Linear relation.AtMost)
    ∷ entry (codes "int_lin_le_reif") (ConstantIntegerArray ∷ IntegerArray ∷ ConstantInteger ∷ Boolean ∷ []) (LinearReified relation.AtMost)
    ∷ entry (codes "int_lin_ne") (ConstantIntegerArray ∷ IntegerArray ∷ ConstantInteger ∷ []) (Linear relation.Differ)
    ∷ entry (codes "int_lin_ne_reif") (ConstantIntegerArray ∷ IntegerArray ∷ ConstantInteger ∷ Boolean ∷ []) (LinearReified relation.Differ)
    ∷ entry (codes "int_lt") (Integer ∷ Integer ∷ []) (Compared comparison.Below)
    ∷ entry (codes "int_lt_reif") (Integer ∷ Integer ∷ Boolean ∷ []) (ComparedReified comparison.Below)
    ∷ entry (codes "int_max") (Integer ∷ Integer ∷ Integer ∷ []) Maximum
    ∷ entry (codes "int_min") (Integer ∷ Integer ∷ Integer ∷ []) Minimum
    ∷ entry (codes "int_ne") (Integer ∷ Integer ∷ []) (Compared comparison.Differ)
    ∷ entry (codes "int_ne_reif") (Integer ∷ Integer ∷ Boolean ∷ []) (ComparedReified comparison.Differ)
    ∷ entry (codes "int_plus") (Integer ∷ Integer ∷ Integer ∷ []) Sum
    ∷ entry (codes "int_times") (Integer ∷ Integer ∷ Integer ∷ []) Product
    ∷ entry (codes "set_in") (Integer ∷ Set ∷ []) Membership
    ∷ entry (codes "set_in_reif") (Integer ∷ Set ∷ Boolean ∷ []) MembershipReified
    ∷ []

-- the constraint of this name
abbrev pub IsEntryOf : List ℕ → Entry → Type 0
IsEntryOf name e = (k : ℕ) × (slice_get table k ≡ Some e) × (e.name ≡ name)

-- no constraint has this name
abbrev pub IsUnlisted : List ℕ → Type 0
IsUnlisted name = (e : Entry) → IsEntryOf name e → ⊥
