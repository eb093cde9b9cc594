-- The numbers of variables by the places of their declarations.
use Rattle.std.specs.Prelude.{◌≡◌, ℕ, ◌<◌, List, take, length, slice_get, Some}
use Rattle.dom_core.specs.declared.var_id.VarId.{VarId}
use Rattle.dom_definers.specs.declared.form.Form.{Form}
use Rattle.dom_definers.specs.declared.form.Form.TheVariants as forms
use Rattle.fzn_limits.specs.Sizes.{variables_in}
use Rattle.fzn_symbols.specs.Bases.{base_of_variable}
use Rattle.fzn_symbols.specs.Named.{name_of}
use Rattle.fzn_symbols.specs.declared.base.Base.{Base}
use Rattle.fzn_symbols.specs.declared.base.Base.TheVariants as bases
use Rattle.fzn_syntax.specs.declared.declaration.Declaration.{Declaration}
use Rattle.fzn_syntax.specs.declared.declaration.Declaration.TheVariants.{Variable}

-- the base type of variables of this form
abbrev pub base_of : Form → Base
base_of forms.Bool = bases.Bool
base_of forms.Int = bases.Int

-- a variable of this form is declared, and no array
abbrev pub IsOfForm : Form → Declaration → Type 0
IsOfForm form (Variable v) = base_of_variable v.element ≡ base_of form
IsOfForm form d = ⊥

-- how many variables are declared before this place, without arrays
abbrev pub number_at : List Declaration → ℕ → ℕ
number_at ds k = variables_in (take k ds)

-- a variable of this name and this form is declared, and has this number
pub record IsNumbered (ds : List Declaration) (form : Form) (n : List ℕ) (x : VarId) : Type 0 where
  pub place : ℕ
  pub declaration : Declaration
  pub declared : slice_get ds place ≡ Some declaration
  pub named : name_of declaration ≡ n
  pub of_form : IsOfForm form declaration
  pub number : x.0 ≡ number_at ds place

-- the number at each place is that of the first variable that is declared there or behind
pub record AreNumbers (ds : List Declaration) (ns : List ℕ) : Type 0 where
  pub whole : length ns ≡ length ds
  pub at : (k : ℕ) → k < length ds → slice_get ns k ≡ Some (number_at ds k)
