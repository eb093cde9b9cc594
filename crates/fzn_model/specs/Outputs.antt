-- What is printed of an answer.
use Rattle.std.specs.Prelude.{◌≡◌, ℕ, Bool, true, false, List, Option, Some, None, codes}
use Rattle.std.specs.List.{find, list_any}
use Rattle.std.specs.Str.{bytes_eq}
use Rattle.dom_core.specs.declared.arg.Arg.{Arg}
use Rattle.dom_definers.specs.declared.form.Form.{Form}
use Rattle.dom_index_sets.specs.declared.index_set.IndexSet.{IndexSet}
use Rattle.dom_model.specs.declared.output.Output.{Output}
use Rattle.dom_model.specs.declared.output.Output.TheVariants.{Scalar, Array}
use Rattle.fzn_arguments.specs.Arguments.{AreArgsOf}
use Rattle.fzn_model.specs.Found.{AreFound}
use Rattle.fzn_model.specs.Variables.{IsBuiltType, form_of}
use Rattle.fzn_output_marks.specs.Sets.{HasIndexSets}
use Rattle.fzn_syntax.specs.declared.annotation.Annotation.{Annotation}
use Rattle.fzn_syntax.specs.declared.declaration.Declaration.{Declaration}
use Rattle.fzn_syntax.specs.declared.declaration.Declaration.TheVariants.{Parameter, Variable, ParameterArray, VariableArray}
use Rattle.fzn_syntax.specs.declared.declaration.VariableArray as syntax

-- the annotation has this name
abbrev pub is_named : List ℕ → Annotation → Bool
is_named n a = bytes_eq a.name.name n

-- whether one of a scalar's annotations marks it
abbrev pub is_marked : List Annotation → Bool
is_marked marks = list_any (is_named (codes "output_var")) marks

-- the first of an array's annotations that marks it
abbrev pub mark_of : List Annotation → Option Annotation
mark_of marks = find (is_named (codes "output_array")) marks

-- the variable of this number, where it is marked
abbrev pub scalar_output : Bool → ℕ → Option Output
scalar_output true i = Some (Scalar (record { 0 = i }))
scalar_output false i = None

-- the array under its own name, with these index sets, and what its entries stand for
pub record IsIndexed (ds : List Declaration) (a : syntax.VariableArray) (sets : List IndexSet) (name : List ℕ) (form : Form) (others : List IndexSet) (entries : List Arg) : Type 0 where
  pub named : name ≡ a.name.name
  pub formed : form ≡ form_of a.element
  pub indexed : others ≡ sets
  pub listed : AreArgsOf ds (form_of a.element) a.value entries

-- what is printed of an array with these index sets
abbrev pub IsIndexedOutput : List Declaration → syntax.VariableArray → List IndexSet → Output → Type 0
IsIndexedOutput ds a sets (Scalar x) = ⊥
IsIndexedOutput ds a sets (Array name form others entries) = IsIndexed ds a sets name form others entries

-- what is printed of an array of truth values or integers by this mark, which gives its index sets
pub record IsArrayOutput (ds : List Declaration) (a : syntax.VariableArray) (mark : Annotation) (o : Output) : Type 0 where
  pub typed : IsBuiltType a.element
  pub sets : List IndexSet
  pub marked : HasIndexSets mark sets
  pub indexed : IsIndexedOutput ds a sets o

-- what is printed of an array by its mark, where it has one
abbrev pub IsMarkedOutput : List Declaration → syntax.VariableArray → Option Annotation → Option Output → Type 0
IsMarkedOutput ds a None o = o ≡ None
IsMarkedOutput ds a (Some mark) None = ⊥
IsMarkedOutput ds a (Some mark) (Some o) = IsArrayOutput ds a mark o

-- what is printed of a declaration, the variable of which has this number where it is one
abbrev pub IsOutput : List Declaration → ℕ → Declaration → Option Output → Type 0
IsOutput ds i (Parameter p) o = o ≡ None
IsOutput ds i (Variable v) o = o ≡ scalar_output (is_marked v.annotations) i
IsOutput ds i (ParameterArray a) o = o ≡ None
IsOutput ds i (VariableArray a) o = IsMarkedOutput ds a (mark_of a.annotations) o

-- what is printed of these declarations among all, the first variable of which has this number
abbrev pub AreOutputs : List Declaration → ℕ → List Declaration → List Output → Type 0
AreOutputs all i ds os = AreFound (IsOutput all) i ds os
