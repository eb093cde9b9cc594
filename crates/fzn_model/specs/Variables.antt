-- The variables that declarations declare.
use Rattle.std.specs.Prelude.{◌≡◌, List, [], ◌∷◌, ◌++◌, map, ℤ, pos, All, Result, Ok, Err}
use Rattle.std.specs.List.{flat_map}
use Rattle.std.specs.Str.{IsAscii}
use Rattle.dom_definers.specs.declared.form.Declared.{Declared}
use Rattle.dom_definers.specs.declared.form.Declared.TheVariants as declared
use Rattle.dom_definers.specs.declared.form.Form.{Form}
use Rattle.dom_definers.specs.declared.form.Form.TheVariants as forms
use Rattle.dom_definers.specs.declared.variable.Variable as model
use Rattle.dom_model.specs.Draft.{Draft, empty_draft, IsSmallDeclared}
use Rattle.fzn_arguments.specs.Numbers.{base_of}
use Rattle.fzn_model.specs.declared.error.ResolveError.{ResolveError}
use Rattle.fzn_model.specs.declared.error.ResolveError.TheVariants.{NotBuilt, Memory}
use Rattle.fzn_symbols.specs.Bases.{base_of_variable}
use Rattle.fzn_symbols.specs.Named.{name_of}
use Rattle.fzn_syntax.specs.declared.declaration.Declaration.{Declaration}
use Rattle.fzn_syntax.specs.declared.declaration.Declaration.TheVariants.{Parameter, Variable, ParameterArray, VariableArray}
use Rattle.fzn_syntax.specs.declared.declaration.VariableDeclaration as syntax
use Rattle.fzn_syntax.specs.declared.element.Element.{Element}
use Rattle.fzn_syntax.specs.declared.element.Element.TheVariants as elements
use Rattle.fzn_syntax.specs.declared.element.VariableType.{VariableType}
use Rattle.fzn_syntax.specs.declared.element.VariableType.TheVariants as types
use Rattle.fzn_syntax.specs.declared.number.Number.{Number}
use Rattle.fzn_syntax.specs.declared.number.Number.TheVariants as numbers

-- ---- types

-- the integer; a float, of which nothing is built, is 0
abbrev pub integer_of : Number → ℤ
integer_of (numbers.Int z) = z
integer_of (numbers.Float text) = pos 0

-- the integers that the element allows, as they are written
abbrev pub declared_element : Element → Declared
declared_element elements.Int = declared.Any
declared_element elements.Float = declared.Any
declared_element (elements.Range b) = declared.Range (integer_of b.lower) (integer_of b.upper)
declared_element (elements.Set ns) = declared.Values (map integer_of ns)

-- the values that the type allows, as they are written
abbrev pub declared_of : VariableType → Declared
declared_of types.Bool = declared.Any
declared_of (types.Plain e) = declared_element e
declared_of (types.SetOf e) = declared.Any

-- what the values of the type stand for
abbrev pub form_of : VariableType → Form
form_of types.Bool = forms.Bool
form_of (types.Plain e) = forms.Int
form_of (types.SetOf e) = forms.Int

-- the type is of truth values or of integers
abbrev pub IsBuiltType : VariableType → Type 0
IsBuiltType t = base_of_variable t ≡ base_of (form_of t)

-- ---- variables

-- the variable is of truth values or of integers, and the integers of its type are small
pub record IsBuiltVariable (v : syntax.VariableDeclaration) : Type 0 where
  pub typed : IsBuiltType v.element
  pub small : IsSmallDeclared (declared_of v.element)

-- these are the values that are declared of a variable which is built
abbrev pub IsBuiltAs : syntax.VariableDeclaration → Declared → Type 0
IsBuiltAs v d = IsBuiltVariable v × (d ≡ declared_of v.element)

-- the variable that is declared
abbrev pub variable_of : syntax.VariableDeclaration → model.Variable
variable_of v = record { name = v.name.name; form = form_of v.element; declared = declared_of v.element }

-- ---- declarations

-- the variable that is declared, if one is, is built
abbrev pub IsBuilt : Declaration → Type 0
IsBuilt (Parameter p) = Unit {0}
IsBuilt (Variable v) = IsBuiltVariable v
IsBuilt (ParameterArray a) = Unit {0}
IsBuilt (VariableArray a) = Unit {0}

-- the variable that is declared, if one is
abbrev pub variables_by : Declaration → List model.Variable
variables_by (Parameter p) = []
variables_by (Variable v) = variable_of v ∷ []
variables_by (ParameterArray a) = []
variables_by (VariableArray a) = []

-- the variables in order of declaration
abbrev pub variables_of : List Declaration → List model.Variable
variables_of ds = flat_map variables_by ds

-- the declared name is of ASCII alone
abbrev pub IsAsciiNamed : Declaration → Type 0
IsAsciiNamed d = IsAscii (name_of d)

-- ---- what is put together

-- the variables of these declarations, and nothing else
abbrev pub declared_draft : List Declaration → Draft
declared_draft ds = record empty_draft { variables = variables_of ds }

-- one more declaration is added, or is not built
abbrev pub IsDeclaredNext : Draft → Declaration → Draft → Result (Unit {0}) ResolveError → Type 0
IsDeclaredNext old d new (Ok u) = IsBuilt d × (new ≡ record old { variables = old.variables ++ variables_by d })
IsDeclaredNext old d new (Err NotBuilt) = IsBuilt d → ⊥
IsDeclaredNext old d new (Err Memory) = Unit {0}

-- the variables of the declarations are put together, or are not built
abbrev pub AreDeclared : List Declaration → Draft → Result (Unit {0}) ResolveError → Type 0
AreDeclared ds new (Ok u) = All IsBuilt ds × (new ≡ declared_draft ds)
AreDeclared ds new (Err NotBuilt) = All IsBuilt ds → ⊥
AreDeclared ds new (Err Memory) = Unit {0}
