-- The interval that a variable can have.
use Rattle.std.specs.Prelude.{◌≡◌, ◌<◌, ◌^◌, ◌&&◌, Bool, true, false, if◌then◌else◌, nat_lt, Option, Some, None, List, [], ◌∷◌, ℕ, pos, neg_ℤ, int_le, length, slice_get, slice_index_or}
use Rattle.any_kind.specs.Any.{any_functional, any_inputs, any_size, any_ranged, any_defined}
use Rattle.any_kind.specs.declared.any.AnyKind.{AnyKind}
use Rattle.dom_core.specs.Ends.{Ends}
use Rattle.dom_core.specs.declared.var_id.VarId.{VarId}
use Rattle.kind_law.specs.Laws.{AllBelow, EndsIn, small_ends}
use Rattle.dom_definers.specs.Definers.{definer_at}
use Rattle.dom_definers.specs.Variable.{declared_hull}
use Rattle.dom_definers.specs.declared.posted.Posted.{Posted}
use Rattle.dom_definers.specs.declared.variable.Variable.{Variable}

-- the hull of the variable with this number, where it has one
abbrev pub hull_at : List (Option Ends) → ℕ → Option Ends
hull_at hs v = slice_index_or hs v None

-- more integers than any table has indices
abbrev pub everything : Ends
everything = record { lo = neg_ℤ (pos (2 ^ 100)); hi = pos (2 ^ 100) }

-- the hull, or everything where there is none
abbrev pub span_of : Option Ends → Ends
span_of None = everything
span_of (Some e) = e

-- the intervals of the variables
abbrev pub spans : List (Option Ends) → ℕ → Ends
spans hs v = span_of (hull_at hs v)

-- the hull, where there is one, has an integer and lies within plus and minus 2 ^ 62
abbrev pub IsSmallHull : Option Ends → Type 0
IsSmallHull None = Unit {0}
IsSmallHull (Some e) = EndsIn e small_ends

-- each hull is small
abbrev pub AreSmallHulls : List (Option Ends) → Type 0
AreSmallHulls hs = (v : ℕ) → IsSmallHull (hull_at hs v)

-- there is a hull
abbrev pub is_known : Option Ends → Bool
is_known None = false
is_known (Some e) = true

-- each of the variables has a hull
abbrev pub all_known : List (Option Ends) → List VarId → Bool
all_known hs [] = true
all_known hs (u ∷ us) = is_known (hull_at hs u.0) && all_known hs us

-- the interval, where it lies within plus and minus 2 ^ 62
abbrev pub small_or_none : Ends → Option Ends
small_or_none e = if int_le small_ends.lo e.lo && int_le e.hi small_ends.hi then Some e else None

-- the range over the inputs' hulls, where each has one, the sum or product over them is at most 2 ^ 100, and the range is small
abbrev pub defined_hull : AnyKind → List (Option Ends) → Option Ends
defined_hull k hs =
    if all_known hs (any_inputs k) then (if nat_lt (2 ^ 100) (any_size k (spans hs)) then None else small_or_none (any_ranged k (spans hs))) else None

-- the hull by the definition, where that has a value over the inputs' hulls, and else the declared one
abbrev pub hull_by : AnyKind → Option Ends → List (Option Ends) → Option Ends
hull_by k declared hs = if any_defined k (spans hs) then defined_hull k hs else declared

-- the hull by the constraint, where there is one
abbrev pub posted_hull : Option Posted → Option Ends → List (Option Ends) → Option Ends
posted_hull None declared hs = declared
posted_hull (Some c) declared hs = hull_by c.kind declared hs

-- the hull by the definition at this place, or the declared one
abbrev pub own_hull : List Posted → Option ℕ → Option Ends → List (Option Ends) → Option Ends
own_hull cs None declared hs = declared
own_hull cs (Some i) declared hs = posted_hull (slice_get cs i) declared hs

-- the declared hull of the variable, where there is one
abbrev pub declared_or_none : Option Variable → Option Ends
declared_or_none None = None
declared_or_none (Some v) = declared_hull v

-- the variable's hull is that of its definition or declaration
abbrev pub IsHull : List Variable → List Posted → List (Option ℕ) → List (Option Ends) → ℕ → Type 0
IsHull vs cs ds hs v = hull_at hs v ≡ own_hull cs (definer_at ds v) (declared_or_none (slice_get vs v)) hs

-- the place of the definition, where it has a value at all inputs within their hulls
abbrev pub kept_by : Option Posted → ℕ → List (Option Ends) → Option ℕ
kept_by None i hs = None
kept_by (Some c) i hs = if any_defined c.kind (spans hs) then Some i else None

-- the definer that stays: one without a value somewhere over its inputs' hulls is dropped
abbrev pub kept_definer : List Posted → List (Option Ends) → Option ℕ → Option ℕ
kept_definer cs hs None = None
kept_definer cs hs (Some i) = kept_by (slice_get cs i) i hs

-- ---- what is asked

-- the constraint's kind gives its output its value, and reads so many variables
pub record IsDefinition (n : ℕ) (k : AnyKind) : Type 0 where
  pub functional : any_functional k ≡ true
  pub below : AllBelow n (any_inputs k)

-- the constraint, where there is one, is a definition
abbrev pub IsPostedDefinition : ℕ → Option Posted → Type 0
IsPostedDefinition n None = Unit {0}
IsPostedDefinition n (Some c) = IsDefinition n c.kind

-- what stands at the place of a definer is a definition
abbrev pub IsFitDefiner : ℕ → List Posted → Option ℕ → Type 0
IsFitDefiner n cs None = Unit {0}
IsFitDefiner n cs (Some i) = IsPostedDefinition n (slice_get cs i)

-- each definer is a definition
abbrev pub AreFitDefiners : ℕ → List Posted → List (Option ℕ) → Type 0
AreFitDefiners n cs ds = (v : ℕ) → IsFitDefiner n cs (definer_at ds v)

-- the hull of each declaration is small
abbrev pub AreSmallDeclared : List Variable → Type 0
AreSmallDeclared vs = (v : ℕ) → IsSmallHull (declared_or_none (slice_get vs v))

-- each variable's hull is that of its definition over the hulls of what it reads, or of its declaration
pub record AreHulls (vs : List Variable) (cs : List Posted) (ds : List (Option ℕ)) (hs : List (Option Ends)) : Type 0 where
  pub whole : length hs ≡ length vs
  pub each : (v : ℕ) → v < length vs → IsHull vs cs ds hs v
