-- Literals and names that fit stand for something.
use Rattle.std.proofs.Common.{◌≡◌, ◌⊎◌, inl, inr, ℕ, ℤ, Bool, true, false, if◌then◌else◌, List, slice_get, Some, refl, sym, ap, ◌∙◌, subst}
use Rattle.dom_core.specs.declared.arg.Arg.{Arg}
use Rattle.dom_core.specs.declared.arg.Arg.TheVariants.{Var, Const}
use Rattle.dom_definers.specs.declared.form.Form.{Form}
use Rattle.dom_definers.specs.declared.form.Form.TheVariants as forms
use Rattle.fzn_arguments.specs.Arguments.{value_of, HasValue, IsArg}
use Rattle.fzn_arguments.specs.Numbers.{base_of, IsOfForm, number_at}
use Rattle.fzn_check.specs.DeclarationFaults.{is_constant, IsFine}
use Rattle.fzn_check.specs.Places.{named_in, places_of}
use Rattle.fzn_symbols.specs.Bases.{is_integer_element, base_of_parameter}
use Rattle.fzn_symbols.specs.Named.{names_of, AreDifferent}
use Rattle.fzn_symbols.specs.Sorts.{sort, sort_of, Names}
use Rattle.fzn_symbols.specs.Typing.{Fits, IsScalar}
use Rattle.fzn_symbols.specs.declared.base.Base.TheVariants as bases
use Rattle.fzn_symbols.specs.declared.sort.Sort.{Sort}
use Rattle.fzn_symbols.specs.declared.typing.Instantiation.TheVariants as instantiations
use Rattle.fzn_syntax.specs.declared.declaration.Declaration.{Declaration}
use Rattle.fzn_syntax.specs.declared.declaration.Declaration.TheVariants.{Parameter, Variable, ParameterArray, VariableArray}
use Rattle.fzn_syntax.specs.declared.declaration.Parameter as syntax
use Rattle.fzn_syntax.specs.declared.element.ParameterType.{ParameterType}
use Rattle.fzn_syntax.specs.declared.element.ParameterType.TheVariants as parameters
use Rattle.fzn_syntax.specs.declared.expression.Basic.{Basic}
use Rattle.fzn_syntax.specs.declared.expression.Basic.TheVariants as basics
use Rattle.fzn_syntax.specs.declared.expression.Expression.{Expression}
use Rattle.fzn_syntax.specs.declared.expression.Expression.TheVariants as expressions
use Rattle.fzn_syntax.specs.declared.number.Number.TheVariants as numbers
use Rattle.fzn_values.specs.Constants.{truth, number}
use Rattle.fzn_values.specs.Literals.{is_literal, name_in, integer_value, boolean_value, value_for, StandsFor, itself, through}
use Rattle.fzn_values.specs.declared.literal.LiteralKind.{LiteralKind}
use Rattle.fzn_values.specs.declared.literal.LiteralKind.TheVariants as literals
use Rattle.fzn_totality.proofs.Chains.{Likely, likely_typed, leads, Steps, ends}

-- the literals of a form
abbrev literal_of : Form → LiteralKind
literal_of forms.Bool = literals.Boolean
literal_of forms.Int = literals.Integer

-- a parameter of this form
abbrev IsParameter : Form → Declaration → Type 0
IsParameter form d = sort_of d ≡ sort (base_of form) false false

parameter_is_constant : (form : Form) (d : Declaration) → IsParameter form d → is_constant d ≡ true
parameter_is_constant form (Parameter p) is = refl
parameter_is_constant form (Variable v) is = let e : true ≡ false = ap (λ (s : Sort). s.is_variable) is in absurd cc
parameter_is_constant form (ParameterArray a) is = refl
parameter_is_constant form (VariableArray a) is = let e : true ≡ false = ap (λ (s : Sort). s.is_variable) is in absurd cc

neither_set_nor_float : (form : Form) (b : Bool) → (if b then bases.Set else bases.FloatOrSet) ≡ base_of form → ⊥
neither_set_nor_float forms.Bool true e = absurd cc
neither_set_nor_float forms.Bool false e = absurd cc
neither_set_nor_float forms.Int true e = absurd cc
neither_set_nor_float forms.Int false e = absurd cc

boolean_value_there : (t : ParameterType) (v : Expression) → base_of_parameter t ≡ bases.Bool → boolean_value t v ≡ Some v
boolean_value_there parameters.Bool v is = refl
boolean_value_there parameters.Int v is = absurd cc
boolean_value_there parameters.Float v is = absurd cc
boolean_value_there (parameters.SetOf e) v is = absurd (neither_set_nor_float forms.Bool (is_integer_element e) is)

integer_value_there : (t : ParameterType) (v : Expression) → base_of_parameter t ≡ bases.Int → integer_value t v ≡ Some v
integer_value_there parameters.Bool v is = absurd cc
integer_value_there parameters.Int v is = refl
integer_value_there parameters.Float v is = absurd cc
integer_value_there (parameters.SetOf e) v is = absurd (neither_set_nor_float forms.Int (is_integer_element e) is)

value_of_parameter : (form : Form) (p : syntax.Parameter) → base_of_parameter p.element ≡ base_of form → value_for (literal_of form) (Parameter p) ≡ Some p.value
value_of_parameter forms.Bool p is = boolean_value_there p.element p.value is
value_of_parameter forms.Int p is = integer_value_there p.element p.value is

-- what fits as a constant is a literal, or names a parameter
literal_or_name : (ds : List Declaration) (form : Form) (b : Basic) → Fits ds instantiations.Constant (base_of form) b
    → (is_literal (literal_of form) (expressions.Basic b) ≡ true) ⊎ ((n : List ℕ) × (name_in b ≡ Some n) × Names ds n (sort (base_of form) false false) × (named_in ds (expressions.Basic b) ≡ places_of ds n))
literal_or_name ds forms.Bool basics.True h = inl refl
literal_or_name ds forms.Bool basics.False h = inl refl
literal_or_name ds forms.Bool (basics.Name n) h = inr (n.name, refl, h, refl)
literal_or_name ds forms.Bool (basics.Number z) h = let e : bases.Bool ≡ bases.Int = h.0 in absurd cc
literal_or_name ds forms.Bool (basics.Range r) h = let e : bases.Bool ≡ bases.Set = h.0 in absurd cc
literal_or_name ds forms.Bool (basics.Set zs) h = let e : bases.Bool ≡ bases.Set = h.0 in absurd cc
literal_or_name ds forms.Int basics.True h = let e : bases.Int ≡ bases.Bool = h in absurd cc
literal_or_name ds forms.Int basics.False h = let e : bases.Int ≡ bases.Bool = h in absurd cc
literal_or_name ds forms.Int (basics.Name n) h = inr (n.name, refl, h, refl)
literal_or_name ds forms.Int (basics.Number z) h = inl h.1
literal_or_name ds forms.Int (basics.Range r) h = let e : bases.Int ≡ bases.Set = h.0 in absurd cc
literal_or_name ds forms.Int (basics.Set zs) h = let e : bases.Int ≡ bases.Set = h.0 in absurd cc

-- ---- what literals there are

stands_for_literal : (ds : List Declaration) (literal : LiteralKind) (e l : Expression) → StandsFor ds literal e l → is_literal literal l ≡ true
stands_for_literal ds literal e l (itself is same) = subst (λ x. is_literal literal x ≡ true) (sym same) is
stands_for_literal ds literal e l (through n d v named declared has rest) = stands_for_literal ds literal v l rest

integer_literal : (l : Expression) → is_literal literals.Integer l ≡ true → (z : ℤ) × (l ≡ expressions.Basic (number z))
integer_literal (expressions.Basic basics.True) is = absurd cc
integer_literal (expressions.Basic basics.False) is = absurd cc
integer_literal (expressions.Basic (basics.Name n)) is = absurd cc
integer_literal (expressions.Basic (basics.Number (numbers.Int z))) is = (z, refl)
integer_literal (expressions.Basic (basics.Number (numbers.Float t))) is = absurd cc
integer_literal (expressions.Basic (basics.Range r)) is = absurd cc
integer_literal (expressions.Basic (basics.Set zs)) is = absurd cc
integer_literal (expressions.List bs) is = absurd cc

truth_literal : (l : Expression) → is_literal literals.Boolean l ≡ true → (t : Bool) × (l ≡ expressions.Basic (truth t))
truth_literal (expressions.Basic basics.True) is = (true, refl)
truth_literal (expressions.Basic basics.False) is = (false, refl)
truth_literal (expressions.Basic (basics.Name n)) is = absurd cc
truth_literal (expressions.Basic (basics.Number z)) is = absurd cc
truth_literal (expressions.Basic (basics.Range r)) is = absurd cc
truth_literal (expressions.Basic (basics.Set zs)) is = absurd cc
truth_literal (expressions.List bs) is = absurd cc

value_of_literal : (ds : List Declaration) (form : Form) (b : Basic) (l : Expression) → StandsFor ds (literal_of form) (expressions.Basic b) l → (z : ℤ) × HasValue ds form b z
value_of_literal ds forms.Bool b l h =
    let t = truth_literal l (stands_for_literal ds literals.Boolean (expressions.Basic b) l h) in
    (value_of t.0, (t.0, subst (λ x. StandsFor ds literals.Boolean (expressions.Basic b) x) t.1 h, refl))
value_of_literal ds forms.Int b l h =
    let z = integer_literal l (stands_for_literal ds literals.Integer (expressions.Basic b) l h) in
    (z.0, subst (λ x. StandsFor ds literals.Integer (expressions.Basic b) x) z.1 h)

-- ---- what constants and variables stand for

module _ (ds : List Declaration) (different : AreDifferent (names_of ds)) (fine : IsFine ds) (form : Form) where
  -- the parameter's value stands for a literal
  abbrev HasLiteral : Declaration → Type 0
  HasLiteral d = (v : Expression) × (l : Expression) × (value_for (literal_of form) d ≡ Some v) × StandsFor ds (literal_of form) v l

  by_value : (k : ℕ) (p : syntax.Parameter) → slice_get ds k ≡ Some (Parameter p) → base_of_parameter p.element ≡ base_of form → (v : Expression) → p.value ≡ v
      → IsScalar ds instantiations.Constant (base_of form) v → Steps ds different fine (IsParameter form) HasLiteral k (Parameter p)
  by_value k p at is (expressions.List bs) same h = absurd h
  by_value k p at is (expressions.Basic b) same h =
      let has : value_for (literal_of form) (Parameter p) ≡ Some (expressions.Basic b) = value_of_parameter form p is ∙ ap Some same in
      elim (literal_or_name ds form b h) [
        | inl literal ↦ inl (expressions.Basic b, expressions.Basic b, has, itself literal refl)
        | inr name ↦
            let found = name.2 in
            let there = found.1 in
            inr (
              there.0,
              found.0,
              there.1,
              found.2,
              leads ds different fine k there.0 (Parameter p) found.0 name.0 at (ap (named_in ds) same ∙ name.3) there.1 there.2,
              λ q. (expressions.Basic b, q.1, has, through name.0 found.0 q.0 name.1 there q.2 q.3),
            )
      ]

  step : (k : ℕ) (d : Declaration) → slice_get ds k ≡ Some d → IsParameter form d → Likely (Steps ds different fine (IsParameter form) HasLiteral k d)
  step k (Parameter p) at is none =
      let base : base_of_parameter p.element ≡ base_of form = ap (λ (s : Sort). s.base) is in
      likely_typed ds different fine k (Parameter p) at (λ typed. none (by_value k p at base p.value refl (subst (λ x. IsScalar ds instantiations.Constant x p.value) base typed)))
  step k (Variable v) at is none = let e : true ≡ false = ap (λ (s : Sort). s.is_variable) is in absurd cc
  step k (ParameterArray a) at is none = let e : true ≡ false = ap (λ (s : Sort). s.is_array) is in absurd cc
  step k (VariableArray a) at is none = let e : true ≡ false = ap (λ (s : Sort). s.is_variable) is in absurd cc

  -- what fits as a constant has a value
  pub likely_value : (b : Basic) → Fits ds instantiations.Constant (base_of form) b → Likely ((z : ℤ) × HasValue ds form b z)
  likely_value b h none =
      elim (literal_or_name ds form b h) [
        | inl literal ↦ none (value_of_literal ds form b (expressions.Basic b) (itself literal refl))
        | inr name ↦
            let found = name.2 in
            let there = found.1 in
            ends ds different fine (IsParameter form) HasLiteral (parameter_is_constant form) step there.0 found.0 there.1 found.2
            (λ q. none (value_of_literal ds form b q.1 (through name.0 found.0 q.0 name.1 there q.2 q.3)))
      ]

  pub variable_of_form : (d : Declaration) → sort_of d ≡ sort (base_of form) true false → IsOfForm form d
  variable_of_form (Parameter p) is = let e : false ≡ true = ap (λ (s : Sort). s.is_variable) is in absurd cc
  variable_of_form (Variable v) is = ap (λ (s : Sort). s.base) is
  variable_of_form (ParameterArray a) is = let e : false ≡ true = ap (λ (s : Sort). s.is_variable) is in absurd cc
  variable_of_form (VariableArray a) is = let e : true ≡ false = ap (λ (s : Sort). s.is_array) is in absurd cc

  constant_or_variable : (b : Basic) → Fits ds instantiations.Entry (base_of form) b → Fits ds instantiations.Constant (base_of form) b ⊎ ((n : List ℕ) × (name_in b ≡ Some n) × Names ds n (sort (base_of form) true false))
  constant_or_variable basics.True h = inl h
  constant_or_variable basics.False h = inl h
  constant_or_variable (basics.Name n) h = elim h [ inl c ↦ inl c | inr v ↦ inr (n.name, refl, v) ]
  constant_or_variable (basics.Number z) h = inl h
  constant_or_variable (basics.Range r) h = inl h
  constant_or_variable (basics.Set zs) h = inl h

  -- what fits stands for a constant or a variable
  pub likely_arg : (b : Basic) → Fits ds instantiations.Entry (base_of form) b → Likely ((x : Arg) × IsArg ds form b x)
  likely_arg b h none =
      elim (constant_or_variable b h) [
        | inl constant ↦ likely_value b constant (λ z. none (Const z.0, z.1))
        | inr name ↦
            let found = name.2 in
            let there = found.1 in
            none (
              Var (record { 0 = number_at ds there.0 }),
              (
                name.0,
                name.1,
                record {
                  place = there.0;
                  declaration = found.0;
                  declared = there.1;
                  named = there.2;
                  of_form = variable_of_form found.0 found.2;
                  number = refl;
                },
              ),
            )
      ]
