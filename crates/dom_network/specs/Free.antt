-- The variables that nothing defines, and tuples of their values.
use Rattle.std.specs.Prelude.{◌≡◌, ◌*◌, true, Option, Some, None, List, [], ◌∷◌, ℕ, suc, length, map, ℤ}
use Rattle.dom_core.specs.Assignment.{value_at}
use Rattle.dom_core.specs.Rises.{is_among}
use Rattle.dom_core.specs.declared.var_id.VarId.{VarId}

-- the variables without a definer in order, the first of the list being that with this number
abbrev pub free_from : ℕ → List (Option ℕ) → List VarId
free_from v [] = []
free_from v (None ∷ ds) = record { 0 = v } ∷ free_from (suc v) ds
free_from v (Some i ∷ ds) = free_from (suc v) ds

-- the variables without a definer, in order of declaration
abbrev pub free_of : List (Option ℕ) → List VarId
free_of ds = free_from 0 ds

-- the values of the free variables
abbrev pub free_values : List (Option ℕ) → List ℤ → List ℤ
free_values ds a = map (value_at a) (free_of ds)

-- the values are one from each domain
abbrev pub IsTuple : List (List ℤ) → List ℤ → Type 0
IsTuple [] [] = Unit {0}
IsTuple [] (x ∷ xs) = ⊥
IsTuple (d ∷ ds) [] = ⊥
IsTuple (d ∷ ds) (x ∷ xs) = (is_among x d ≡ true) × IsTuple ds xs

-- the number of ways to choose one from each list
abbrev pub tuple_count_of : List (List ℤ) → ℕ
tuple_count_of [] = 1
tuple_count_of (d ∷ ds) = length d * tuple_count_of ds
