-- Laws of allowed values, hulls and restrictions.
use Rattle.std.specs.Prelude.{◌≡◌, ◌↔◌, true, Option, Some, None, List, [], ℕ, length, slice_get, ℤ}
use Rattle.any_kind.specs.Any.{any_met}
use Rattle.any_kind.specs.Meets.{MeetsEach}
use Rattle.any_kind.specs.declared.any.AnyKind.{AnyKind}
use Rattle.dom_core.specs.Assignment.{entry_at}
use Rattle.dom_core.specs.Rises.{first_of, is_among, last_of}
use Rattle.dom_core.specs.declared.set.Set.{Set}
use Rattle.dom_definers.specs.Definers.{definer_at}
use Rattle.dom_definers.specs.Variable.{declared_hull}
use Rattle.dom_definers.specs.declared.variable.Variable.{Variable}
use Rattle.dom_domains.specs.Allowed.{Allows, EachAllowed, values_of}
use Rattle.dom_domains.specs.Faults.{IsOpen}
use Rattle.dom_domains.specs.Restrictions.{AreRestrictions, IsRestriction, set_of}

-- a variable with this definer is free, or is allowed the value
abbrev pub AllowsDefined : Option ℕ → Variable → ℤ → Type 0
AllowsDefined None v x = Unit {0}
AllowsDefined (Some i) v x = Allows v x

-- each defined variable has a value that its declaration allows
abbrev pub DefinedAreAllowed : List Variable → List (Option ℕ) → List ℤ → Type 0
DefinedAreAllowed vs ds a = (n : ℕ) (v : Variable) → slice_get vs n ≡ Some v → AllowsDefined (definer_at ds n) v (entry_at a n)

-- the values of a variable are those that its declaration allows, where it doesn't allow every integer
abbrev pub ValuesLaw : Type 0
ValuesLaw = (v : Variable) (x : ℤ) → (IsOpen v.form v.declared → ⊥) → Allows v x ↔ (is_among x (values_of v) ≡ true)

-- an assignment is allowed where it has a value for each variable, and each is allowed
abbrev pub AssignmentLaw : Type 0
AssignmentLaw =
    (vs : List Variable) (a : List ℤ)
    → EachAllowed vs a ↔ ((length a ≡ length vs) × ((n : ℕ) (v : Variable) → slice_get vs n ≡ Some v → Allows v (entry_at a n)))

-- the hull of a declaration goes from the first value to the last, where there is one
abbrev pub HullLaw : Type 0
HullLaw =
    (v : Variable) → (values_of v ≡ [] → ⊥)
    → declared_hull v ≡ Some (record { lo = first_of (values_of v); hi = last_of (values_of v) })

-- a restriction of a variable to its set is met where it has an allowed value
abbrev pub RestrictionLaw : Type 0
RestrictionLaw =
    (v : Variable) (s : Set) (n : ℕ) (k : AnyKind) (a : List ℤ) → set_of v ≡ Some s → IsRestriction n s k
    → (any_met k a ≡ true) ↔ Allows v (entry_at a n)

-- all restrictions are met where each defined variable has an allowed value
abbrev pub RestrictionsLaw : Type 0
RestrictionsLaw =
    (vs : List Variable) (ds : List (Option ℕ)) (ks : List AnyKind) (a : List ℤ) → AreRestrictions vs ds ks
    → MeetsEach ks a ↔ DefinedAreAllowed vs ds a

-- variables and definers have one list of restrictions at most
abbrev pub OneRestrictionLaw : Type 0
OneRestrictionLaw =
    (vs : List Variable) (ds : List (Option ℕ)) (ks js : List AnyKind) → AreRestrictions vs ds ks → AreRestrictions vs ds js
    → ks ≡ js
