-- The first constraint at fault.
use Rattle.std.specs.Prelude.{◌≡◌, ℕ, ◌<◌, List, slice_get, Option, Some, MatchOption}
use Rattle.std.specs.List.{Any}
use Rattle.fzn_syntax.specs.declared.constraint.Constraint.{Constraint}
use Rattle.fzn_syntax.specs.declared.declaration.Declaration.{Declaration}
use Rattle.fzn_check.specs.Floats.{HasFloatOrSet}
use Rattle.fzn_check.specs.declared.fault.Fault.{Fault}
use Rattle.fzn_check.specs.declared.fault.Fault.TheVariants.{FloatOrSet, IllTyped}
use Rattle.fzn_check.specs.Posted.{IsPosted}

-- a float or the name of a float or of a set variable stands in the constraint's arguments
abbrev pub PostsFloatOrSet : List Declaration → Constraint → Type 0
PostsFloatOrSet ds c = Any (HasFloatOrSet ds) c.arguments

-- the constraint has a float or a set variable, or else is not posted right
abbrev pub IsFaultOf : List Declaration → Constraint → Fault → Type 0
IsFaultOf ds c (FloatOrSet at) = PostsFloatOrSet ds c × (at ≡ c.name.at)
IsFaultOf ds c (IllTyped at) = (PostsFloatOrSet ds c → ⊥) × (IsPosted ds c → ⊥) × (at ≡ c.name.at)

-- the constraint at this place is at fault
abbrev pub IsFaultAt : List Declaration → List Constraint → ℕ → Fault → Type 0
IsFaultAt ds cs k f = (c : Constraint) × (slice_get cs k ≡ Some c) × IsFaultOf ds c f

-- no constraint before this place is at fault
abbrev pub IsFineBefore : List Declaration → List Constraint → ℕ → Type 0
IsFineBefore ds cs k = (j : ℕ) (f : Fault) → j < k → IsFaultAt ds cs j f → ⊥

-- no constraint is at fault
abbrev pub IsFine : List Declaration → List Constraint → Type 0
IsFine ds cs = (k : ℕ) (f : Fault) → IsFaultAt ds cs k f → ⊥

-- this is what the first constraint at fault has
abbrev pub IsFirstFault : List Declaration → List Constraint → Fault → Type 0
IsFirstFault ds cs f = (k : ℕ) × IsFaultAt ds cs k f × IsFineBefore ds cs k

-- the first fault, or nothing where no constraint is at fault
abbrev pub FindsFirstFault : List Declaration → List Constraint → Option Fault → Type 0
FindsFirstFault ds cs first = MatchOption first (IsFine ds cs) (IsFirstFault ds cs)

-- constraints have one first fault at most
abbrev pub HaveOneFirst : Type 0
HaveOneFirst = (ds : List Declaration) (cs : List Constraint) (f g : Fault) → IsFirstFault ds cs f → IsFirstFault ds cs g → f ≡ g
