-- The fault of a solve item.
use Rattle.std.specs.Prelude.{◌≡◌, true, false, List}
use Rattle.fzn_syntax.specs.declared.declaration.Declaration.{Declaration}
use Rattle.fzn_syntax.specs.declared.solve.SolveGoal.{SolveGoal}
use Rattle.fzn_syntax.specs.declared.solve.SolveGoal.TheVariants.{Satisfy, Minimize, Maximize}
use Rattle.fzn_syntax.specs.declared.solve.Solve.{Solve}
use Rattle.fzn_symbols.specs.declared.base.Base.TheVariants as bases
use Rattle.fzn_symbols.specs.Sorts.{sort, Names}
use Rattle.fzn_check.specs.declared.fault.Fault.{Fault}
use Rattle.fzn_check.specs.declared.fault.Fault.TheVariants.{FloatOrSet, IllTyped}
use Rattle.fzn_check.specs.Floats.{NamesFloatOrSet}

-- the goal is a float or a set variable, or an array of them
abbrev pub AimsAtFloatOrSet : List Declaration → SolveGoal → Type 0
AimsAtFloatOrSet ds Satisfy = ⊥
AimsAtFloatOrSet ds (Minimize n) = NamesFloatOrSet ds n.name
AimsAtFloatOrSet ds (Maximize n) = NamesFloatOrSet ds n.name

-- there is no goal, or it is an integer variable
abbrev pub IsWellTypedGoal : List Declaration → SolveGoal → Type 0
IsWellTypedGoal ds Satisfy = Unit {0}
IsWellTypedGoal ds (Minimize n) = Names ds n.name (sort bases.Int true false)
IsWellTypedGoal ds (Maximize n) = Names ds n.name (sort bases.Int true false)

-- the goal's fault, told at the word `solve`
abbrev pub IsSolveFault : List Declaration → Solve → Fault → Type 0
IsSolveFault ds s (FloatOrSet at) = AimsAtFloatOrSet ds s.goal × (at ≡ s.at)
IsSolveFault ds s (IllTyped at) = (AimsAtFloatOrSet ds s.goal → ⊥) × (IsWellTypedGoal ds s.goal → ⊥) × (at ≡ s.at)

-- the goal has no fault
abbrev pub IsSolveFine : List Declaration → Solve → Type 0
IsSolveFine ds s = (f : Fault) → IsSolveFault ds s f → ⊥
