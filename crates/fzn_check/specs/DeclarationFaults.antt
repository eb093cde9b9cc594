-- The first declaration at fault.
use Rattle.std.specs.Prelude.{◌≡◌, ◌⊎◌, ℕ, ◌<◌, Bool, true, false, List, map, slice_get, Option, Some, MatchOption}
use Rattle.digraph.specs.Cycle.{IsAskedOnCycle, HasNoneOnCycle, IsFirstOnCycle}
use Rattle.fzn_syntax.specs.declared.declaration.Declaration.{Declaration}
use Rattle.fzn_syntax.specs.declared.declaration.Declaration.TheVariants.{Parameter, Variable, ParameterArray, VariableArray}
use Rattle.fzn_symbols.specs.Named.{identifier_of}
use Rattle.fzn_check.specs.declared.fault.Fault.{Fault}
use Rattle.fzn_check.specs.declared.fault.Fault.TheVariants.{FloatOrSet, IllTyped}
use Rattle.fzn_check.specs.Declares.{DeclaresFloatOrSet}
use Rattle.fzn_check.specs.Places.{graph_of}
use Rattle.fzn_check.specs.WellTyped.{IsWellTyped}

-- the declaration is of a parameter or of an array of parameters
abbrev pub is_constant : Declaration → Bool
is_constant (Parameter p) = true
is_constant (Variable v) = false
is_constant (ParameterArray a) = true
is_constant (VariableArray a) = false

-- the declaration at this place is of a parameter or of an array of parameters, and leads to itself
abbrev pub DependsOnItself : List Declaration → ℕ → Type 0
DependsOnItself ds k = IsAskedOnCycle (graph_of ds) (map is_constant ds) k

-- the first parameter or array of parameters that leads to itself, or nothing where none does
abbrev pub FindsFirstCyclic : List Declaration → Option ℕ → Type 0
FindsFirstCyclic ds first = MatchOption first (HasNoneOnCycle (graph_of ds) (map is_constant ds)) (IsFirstOnCycle (graph_of ds) (map is_constant ds))

-- the fault of a declaration, of which it is known whether it depends on itself
abbrev pub IsFaultIf : Type 0 → List Declaration → Declaration → Fault → Type 0
IsFaultIf depends ds d (FloatOrSet at) = DeclaresFloatOrSet ds d × (at ≡ (identifier_of d).at)
IsFaultIf depends ds d (IllTyped at) = (DeclaresFloatOrSet ds d → ⊥) × ((IsWellTyped ds d → ⊥) ⊎ depends) × (at ≡ (identifier_of d).at)

-- the declaration at this place is at fault: it has a float or a set variable, or else is not right or depends on itself
abbrev pub IsFaultAt : List Declaration → ℕ → Fault → Type 0
IsFaultAt ds k f = (d : Declaration) × (slice_get ds k ≡ Some d) × IsFaultIf (DependsOnItself ds k) ds d f

-- nothing is wrong at this place
abbrev pub IsFineAt : List Declaration → ℕ → Type 0
IsFineAt ds k = (f : Fault) → IsFaultAt ds k f → ⊥

-- no declaration is at fault
abbrev pub IsFine : List Declaration → Type 0
IsFine ds = (k : ℕ) → IsFineAt ds k

-- this is what the first declaration at fault has
abbrev pub IsFirstFault : List Declaration → Fault → Type 0
IsFirstFault ds f = (k : ℕ) × IsFaultAt ds k f × ((j : ℕ) → j < k → IsFineAt ds j)

-- the first fault, or nothing where no declaration is at fault
abbrev pub FindsFirstFault : List Declaration → Option Fault → Type 0
FindsFirstFault ds first = MatchOption first (IsFine ds) (IsFirstFault ds)

-- the declarations have one first fault at most
abbrev pub HaveOneFirst : Type 0
HaveOneFirst = (ds : List Declaration) (f g : Fault) → IsFirstFault ds f → IsFirstFault ds g → f ≡ g
