-- Constraints whose sum or product can be too large, or whose variable can have too large a value.
use Rattle.std.specs.Prelude.{◌≡◌, ◌==◌, ◌^◌, ◌&&◌, ◌||◌, Bool, true, false, not, nat_lt, if◌then◌else◌, Option, Some, None, List, [], ◌∷◌, ℕ, suc}
use Rattle.any_kind.specs.Any.{any_functional, any_output, any_size, any_vars}
use Rattle.any_kind.specs.declared.any.AnyKind.{AnyKind}
use Rattle.dom_core.specs.Ends.{Ends}
use Rattle.dom_core.specs.declared.var_id.VarId.{VarId}
use Rattle.kind_law.specs.Laws.{AllBelow}
use Rattle.dom_definers.specs.Definers.{definer_at}
use Rattle.dom_definers.specs.Hulls.{hull_at, is_known, spans}
use Rattle.dom_definers.specs.declared.posted.Posted.{Posted}

-- the place is this one
abbrev pub is_place : Option ℕ → ℕ → Bool
is_place None i = false
is_place (Some j) i = j == i

-- the variable, where this place is that of its definer
abbrev pub if_defined : List (Option ℕ) → Option VarId → ℕ → Option VarId
if_defined ds None i = None
if_defined ds (Some x) i = if is_place (definer_at ds x.0) i then Some x else None

-- the variable is the one that is defined
abbrev pub is_own : Option VarId → VarId → Bool
is_own None u = false
is_own (Some x) u = x.0 == u.0

-- each variable but the one that is defined has a hull
abbrev pub others_known : List (Option Ends) → Option VarId → List VarId → Bool
others_known hs d [] = true
others_known hs d (u ∷ us) = (is_own d u || is_known (hull_at hs u.0)) && others_known hs d us

-- the variable that is defined has no hull
abbrev pub is_lost : List (Option Ends) → Option VarId → Bool
is_lost hs None = false
is_lost hs (Some x) = not (is_known (hull_at hs x.0))

-- the sum or product over the hulls of the other variables is above 2 ^ 100, or the variable that is defined has no hull
abbrev pub is_too_wide : AnyKind → Option VarId → List (Option Ends) → Bool
is_too_wide k d hs = others_known hs d (any_vars k) && (nat_lt (2 ^ 100) (any_size k (spans hs)) || is_lost hs d)

-- the place of the first constraint that is too wide, where the first of the list has this place
abbrev pub wide_from : ℕ → List Posted → List (Option ℕ) → List (Option Ends) → Option ℕ
wide_from i [] ds hs = None
wide_from i (c ∷ cs) ds hs = if is_too_wide c.kind (if_defined ds c.defines i) hs then Some i else wide_from (suc i) cs ds hs

-- what is asked of a constraint that defines this variable, or none: it reads so many variables, and gives that one its value
abbrev pub GivesVar : AnyKind → Option VarId → Type 0
GivesVar k None = Unit {0}
GivesVar k (Some x) = (any_functional k ≡ true) × (any_output k ≡ x)

-- what is asked of a constraint
pub record IsFitConstraint (n : ℕ) (k : AnyKind) (d : Option VarId) : Type 0 where
  pub below : AllBelow n (any_vars k)
  pub gives : GivesVar k d

-- what is asked of each constraint, where the first has this place
abbrev pub AreFitFrom : ℕ → ℕ → List Posted → List (Option ℕ) → Type 0
AreFitFrom n i [] ds = Unit {0}
AreFitFrom n i (c ∷ cs) ds = IsFitConstraint n c.kind (if_defined ds c.defines i) × AreFitFrom n (suc i) cs ds
