-- What contracts see of a model that is being put together, and what is asked of its parts.
use Rattle.std.specs.Prelude.{◌≡◌, ◌<◌, ◌≤◌, ◌⊎◌, true, false, Option, Some, None, List, [], ◌∷◌, ℕ, ℤ, length}
use Rattle.any_kind.specs.Any.{any_functional, any_output, any_vars}
use Rattle.any_kind.specs.declared.any.AnyKind.{AnyKind}
use Rattle.dom_core.specs.declared.arg.Arg.{Arg}
use Rattle.dom_core.specs.declared.arg.Arg.TheVariants.{Var, Const}
use Rattle.dom_core.specs.declared.var_id.VarId.{VarId}
use Rattle.dom_core.specs.Small.{IsSmall}
use Rattle.dom_definers.specs.declared.form.Declared.{Declared}
use Rattle.dom_definers.specs.declared.form.Declared.TheVariants.{Any, Range, Values}
use Rattle.dom_definers.specs.declared.posted.Posted.{Posted}
use Rattle.dom_definers.specs.declared.variable.Variable.{Variable}
use Rattle.dom_model.specs.declared.goal.Goal.{Goal}
use Rattle.dom_model.specs.declared.goal.Goal.TheVariants.{Satisfy, Minimize, Maximize}
use Rattle.dom_model.specs.declared.output.Output.{Output}
use Rattle.dom_model.specs.declared.output.Output.TheVariants.{Scalar, Array}
use Rattle.kind_law.specs.Argument.{is_listed}
use Rattle.kind_law.specs.Laws.{AllBelow}

-- the variables in order of declaration, the constraints in order with the variable that each is to define, what is asked, and
-- what is printed
pub record Draft : Type 0 where
  pub variables : List Variable
  pub constraints : List Posted
  pub goal : Goal
  pub outputs : List Output

-- no variables and no constraints, and any assignment will do
abbrev pub empty_draft : Draft
empty_draft = record { variables = []; constraints = []; goal = Satisfy; outputs = [] }

-- each of the integers lies within plus and minus 2 ^ 62
abbrev pub AreSmallIntegers : List ℤ → Type 0
AreSmallIntegers [] = Unit {0}
AreSmallIntegers (x ∷ xs) = IsSmall x × AreSmallIntegers xs

-- the declared integers lie within plus and minus 2 ^ 62
abbrev pub IsSmallDeclared : Declared → Type 0
IsSmallDeclared Any = Unit {0}
IsSmallDeclared (Range lo hi) = IsSmall lo × IsSmall hi
IsSmallDeclared (Values vs) = AreSmallIntegers vs

-- the constraint gives the variable its value; or it gives none and reads the variable, and then the definition is cyclic
abbrev pub GivesOrReads : AnyKind → VarId → Type 0
GivesOrReads k x = ((any_functional k ≡ true) × (any_output k ≡ x)) ⊎ ((any_functional k ≡ false) × (is_listed x (any_vars k) ≡ true))

-- what is asked of the variable that a constraint is to define, where it is to define one
abbrev pub IsFitDefined : ℕ → AnyKind → Option VarId → Type 0
IsFitDefined n k None = Unit {0}
IsFitDefined n k (Some x) = (x.0 < n) × GivesOrReads k x

-- the constraint is over so many variables, and can define the one that it is to define
pub record IsFitPosted (n : ℕ) (c : Posted) : Type 0 where
  pub below : AllBelow n (any_vars c.kind)
  pub defined : IsFitDefined n c.kind c.defines

-- each of the constraints is
abbrev pub AreFitPosted : ℕ → List Posted → Type 0
AreFitPosted n [] = Unit {0}
AreFitPosted n (c ∷ cs) = IsFitPosted n c × AreFitPosted n cs

-- each of the declarations is small
abbrev pub AreSmallDeclarations : List Variable → Type 0
AreSmallDeclarations [] = Unit {0}
AreSmallDeclarations (v ∷ vs) = IsSmallDeclared v.declared × AreSmallDeclarations vs

-- the goal is at one of so many variables
abbrev pub IsFitGoal : ℕ → Goal → Type 0
IsFitGoal n Satisfy = Unit {0}
IsFitGoal n (Minimize x) = x.0 < n
IsFitGoal n (Maximize x) = x.0 < n

-- the argument is a constant, or one of so many variables
abbrev pub IsFitArg : ℕ → Arg → Type 0
IsFitArg n (Var x) = x.0 < n
IsFitArg n (Const c) = Unit {0}

-- each of the arguments is
abbrev pub AreFitArgs : ℕ → List Arg → Type 0
AreFitArgs n [] = Unit {0}
AreFitArgs n (x ∷ xs) = IsFitArg n x × AreFitArgs n xs

-- what is printed is of so many variables
abbrev pub IsFitOutput : ℕ → Output → Type 0
IsFitOutput n (Scalar x) = x.0 < n
IsFitOutput n (Array name form sets entries) = AreFitArgs n entries

-- all that is printed is
abbrev pub AreFitOutputs : ℕ → List Output → Type 0
AreFitOutputs n [] = Unit {0}
AreFitOutputs n (o ∷ os) = IsFitOutput n o × AreFitOutputs n os

-- what the builder's calls ask of the parts
pub record IsFitDraft (d : Draft) : Type 0 where
  pub few_variables : length d.variables ≤ 100000
  pub few_constraints : length d.constraints ≤ 2147483648
  pub small : AreSmallDeclarations d.variables
  pub posted : AreFitPosted (length d.variables) d.constraints
  pub goal : IsFitGoal (length d.variables) d.goal
  pub outputs : AreFitOutputs (length d.variables) d.outputs
