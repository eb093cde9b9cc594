-- The constraints of items, and which variables they define.
use Rattle.std.specs.Prelude.{◌≡◌, ℕ, Bool, List, [], ◌∷◌, pos, negsuc, Option, Some, None, is_some}
use Rattle.std.specs.List.{flat_map}
use Rattle.any_kind.specs.declared.any.AnyKind.{AnyKind}
use Rattle.any_kind.specs.declared.any.AnyKind.TheVariants as kinds
use Rattle.dom_core.specs.declared.arg.Arg.{Arg}
use Rattle.dom_core.specs.declared.arg.Arg.TheVariants.{Var}
use Rattle.dom_core.specs.declared.relation.Relation.TheVariants.{Equal}
use Rattle.dom_core.specs.declared.var_id.VarId.{VarId}
use Rattle.dom_definers.specs.declared.form.Form.{Form}
use Rattle.dom_definers.specs.declared.posted.Posted.{Posted}
use Rattle.dom_model.specs.Solved.{solved}
use Rattle.fzn_arguments.specs.Arguments.{IsScalarArg}
use Rattle.fzn_forms.specs.Kinds.{IsKindOf}
use Rattle.fzn_model.specs.Defining.{Defines, with_defined}
use Rattle.fzn_model.specs.Found.{AreFound}
use Rattle.fzn_model.specs.Variables.{form_of}
use Rattle.fzn_syntax.specs.declared.constraint.Constraint.{Constraint}
use Rattle.fzn_syntax.specs.declared.declaration.Declaration.{Declaration}
use Rattle.fzn_syntax.specs.declared.declaration.Declaration.TheVariants.{Parameter, Variable, ParameterArray, VariableArray}
use Rattle.fzn_syntax.specs.declared.expression.Expression.{Expression}
use Rattle.kind_sum.specs.Sum.{terms_of}

-- the kind, solved for the variable that it defines, if it defines one
abbrev pub posted_as : AnyKind → Option VarId → Posted
posted_as k defines = record { kind = solved k defines; defines = defines }

-- ---- written constraints

-- what the item posts, where some variables are defined before it
pub record IsPosted (ds : List Declaration) (defined : List Bool) (c : Constraint) (p : Posted) : Type 0 where
  pub kind : AnyKind
  pub is : IsKindOf ds c kind
  pub defines : Defines ds defined c.name.name kind c.annotations p.defines
  pub solved : p ≡ posted_as kind p.defines

-- what the items post in their order, where some variables are defined before them
abbrev pub ArePosted : List Declaration → List Bool → List Constraint → List Posted → Type 0
ArePosted ds defined [] [] = Unit {0}
ArePosted ds defined [] (p ∷ ps) = ⊥
ArePosted ds defined (c ∷ cs) [] = ⊥
ArePosted ds defined (c ∷ cs) (p ∷ ps) = IsPosted ds defined c p × ArePosted ds (with_defined defined p.defines) cs ps

-- ---- initialisers

-- whether the variable that is declared, if one is, has an initialiser
abbrev pub initialised_by : Declaration → List Bool
initialised_by (Parameter p) = []
initialised_by (Variable v) = is_some v.value ∷ []
initialised_by (ParameterArray a) = []
initialised_by (VariableArray a) = []

-- whether each variable has an initialiser
abbrev pub initialised : List Declaration → List Bool
initialised ds = flat_map initialised_by ds

-- the variable less what its initialiser stands for is 0
abbrev pub equation : VarId → Arg → AnyKind
equation x e = kinds.Linear (record { terms = terms_of (pos 1 ∷ negsuc 0 ∷ []) (Var x ∷ e ∷ []); relation = Equal; bound = pos 0 })

-- the equation of a variable and its initialiser, which defines the variable
abbrev pub initial : VarId → Arg → Posted
initial x e = posted_as (equation x e) (Some x)

-- the equation of the variable of this form and number, where it has an initialiser
abbrev pub IsInitialised : List Declaration → Form → ℕ → Option Expression → Option Posted → Type 0
IsInitialised ds form i None p = p ≡ None
IsInitialised ds form i (Some e) None = ⊥
IsInitialised ds form i (Some e) (Some p) = (x : Arg) × IsScalarArg ds form e x × (p ≡ initial (record { 0 = i }) x)

-- the equation of the variable that is declared, which has this number, if one is declared and has an initialiser
abbrev pub IsInitial : List Declaration → ℕ → Declaration → Option Posted → Type 0
IsInitial ds i (Parameter p) r = r ≡ None
IsInitial ds i (Variable v) r = IsInitialised ds (form_of v.element) i v.value r
IsInitial ds i (ParameterArray a) r = r ≡ None
IsInitial ds i (VariableArray a) r = r ≡ None

-- the equations of these declarations among all, the first variable of which has this number
abbrev pub AreInitial : List Declaration → ℕ → List Declaration → List Posted → Type 0
AreInitial all i ds ps = AreFound (IsInitial all) i ds ps
