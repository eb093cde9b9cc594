-- Arguments stand for one thing at most.
use Rattle.std.proofs.Common.{◌≡◌, ℕ, ℤ, true, List, [], ◌∷◌, Some, refl, sym, ◌∙◌, ap, subst}
use Rattle.dom_core.specs.declared.arg.Arg.{Arg}
use Rattle.dom_core.specs.declared.arg.Arg.TheVariants.{Var, Const}
use Rattle.dom_core.specs.declared.var_id.VarId.{VarId}
use Rattle.dom_definers.specs.declared.form.Form.{Form}
use Rattle.dom_definers.specs.declared.form.Form.TheVariants as forms
use Rattle.fzn_arguments.specs.Arguments.{value_of, HasValue, NamesVariable, AreArgs, HasOneArg, HasOneScalarArg, HasOneArgList}
use Rattle.fzn_arguments.specs.Numbers.{IsOfForm, IsNumbered, number_at}
use Rattle.fzn_symbols.proofs.Places.{named_at, one_named}
use Rattle.fzn_symbols.specs.Named.{names_of, AreDifferent, IsNamed}
use Rattle.fzn_syntax.specs.declared.declaration.Declaration.{Declaration}
use Rattle.fzn_syntax.specs.declared.declaration.Declaration.TheVariants.{Parameter, Variable, ParameterArray, VariableArray}
use Rattle.fzn_syntax.specs.declared.expression.Basic.{Basic}
use Rattle.fzn_syntax.specs.declared.expression.Basic.TheVariants as basics
use Rattle.fzn_syntax.specs.declared.expression.Expression.{Expression}
use Rattle.fzn_syntax.specs.declared.expression.Expression.TheVariants as expressions
use Rattle.fzn_values.specs.Constants.{truth, number, HasOneInteger, HasOneTruth, HasOneList}
use Rattle.fzn_values.specs.Literals.{is_literal, name_in, value_for, StandsFor, itself, through}
use Rattle.fzn_values.specs.declared.literal.LiteralKind.{LiteralKind}
use Rattle.fzn_values.specs.declared.literal.LiteralKind.TheVariants as literals

-- ---- what a variable names has no value

name_is_no_literal : (literal : LiteralKind) (b : Basic) (n : List ℕ) → name_in b ≡ Some n → is_literal literal (expressions.Basic b) ≡ true → ⊥
name_is_no_literal literals.Boolean basics.True n named is = absurd cc
name_is_no_literal literals.Boolean basics.False n named is = absurd cc
name_is_no_literal literals.Boolean (basics.Name m) n named is = absurd cc
name_is_no_literal literals.Boolean (basics.Number z) n named is = absurd cc
name_is_no_literal literals.Boolean (basics.Range r) n named is = absurd cc
name_is_no_literal literals.Boolean (basics.Set zs) n named is = absurd cc
name_is_no_literal literals.Integer basics.True n named is = absurd cc
name_is_no_literal literals.Integer basics.False n named is = absurd cc
name_is_no_literal literals.Integer (basics.Name m) n named is = absurd cc
name_is_no_literal literals.Integer (basics.Number z) n named is = absurd cc
name_is_no_literal literals.Integer (basics.Range r) n named is = absurd cc
name_is_no_literal literals.Integer (basics.Set zs) n named is = absurd cc
name_is_no_literal literals.List b n named is = absurd cc

variable_has_no_value : (literal : LiteralKind) (form : Form) (d : Declaration) (v : Expression) → IsOfForm form d → value_for literal d ≡ Some v → ⊥
variable_has_no_value literals.Boolean form (Parameter p) v h is = h
variable_has_no_value literals.Boolean form (Variable w) v h is = absurd cc
variable_has_no_value literals.Boolean form (ParameterArray a) v h is = h
variable_has_no_value literals.Boolean form (VariableArray a) v h is = h
variable_has_no_value literals.Integer form (Parameter p) v h is = h
variable_has_no_value literals.Integer form (Variable w) v h is = absurd cc
variable_has_no_value literals.Integer form (ParameterArray a) v h is = h
variable_has_no_value literals.Integer form (VariableArray a) v h is = h
variable_has_no_value literals.List form (Parameter p) v h is = h
variable_has_no_value literals.List form (Variable w) v h is = absurd cc
variable_has_no_value literals.List form (ParameterArray a) v h is = h
variable_has_no_value literals.List form (VariableArray a) v h is = h

module _ (ds : List Declaration) (different : AreDifferent (names_of ds)) (form : Form) where
  stands_for_none : (literal : LiteralKind) (b : Basic) (l : Expression) (x : VarId) → NamesVariable ds form b x → StandsFor ds literal (expressions.Basic b) l → ⊥
  stands_for_none literal b l x h (itself is same) = name_is_no_literal literal b h.0 h.1 is
  stands_for_none literal b l x h (through n d v named declared has rest) =
      let names : Some n ≡ Some h.0 = sym named ∙ h.1 in
      let one : n ≡ h.0 = cc in
      let variable = h.2.declaration in
      let same : d ≡ variable = one_named ds h.0 variable d different (h.2.place, h.2.declared, h.2.named) (subst (λ m. IsNamed ds m d) one declared) in
      variable_has_no_value literal form variable v h.2.of_form (sym (ap (value_for literal) same) ∙ has)

  one_numbered : (n : List ℕ) (x y : VarId) → IsNumbered ds form n x → IsNumbered ds form n y → x ≡ y
  one_numbered n x y h g =
      let same : h.place ≡ g.place = different h.place g.place n (named_at ds n h.place h.declaration h.declared h.named) (named_at ds n g.place g.declaration g.declared g.named) in
      let mk : ℕ → VarId = λ i. record { 0 = i } in
      ap mk (h.number ∙ ap (number_at ds) same ∙ sym g.number)

  one_variable : (b : Basic) (x y : VarId) → NamesVariable ds form b x → NamesVariable ds form b y → x ≡ y
  one_variable b x y h g =
      let names : Some h.0 ≡ Some g.0 = sym h.1 ∙ g.1 in
      let one : h.0 ≡ g.0 = cc in
      one_numbered g.0 x y (subst (λ n. IsNumbered ds form n x) one h.2) g.2

value_or_variable : (ds : List Declaration) (different : AreDifferent (names_of ds)) (form : Form) (b : Basic) (z : ℤ) (x : VarId) → HasValue ds form b z → NamesVariable ds form b x → ⊥
value_or_variable ds different forms.Bool b z x h g = stands_for_none ds different forms.Bool literals.Boolean b (expressions.Basic (truth h.0)) x g h.1
value_or_variable ds different forms.Int b z x h g = stands_for_none ds different forms.Int literals.Integer b (expressions.Basic (number z)) x g h

module _ (truths : HasOneTruth) (integers : HasOneInteger) where
  one_value : (ds : List Declaration) (different : AreDifferent (names_of ds)) (form : Form) (b : Basic) (y z : ℤ) → HasValue ds form b y → HasValue ds form b z → y ≡ z
  one_value ds different forms.Bool b y z h g = h.2 ∙ ap value_of (truths ds b h.0 g.0 different h.1 g.1) ∙ sym g.2
  one_value ds different forms.Int b y z h g = integers ds b y z different h g

  pub one_arg : HasOneArg
  one_arg ds form b (Const y) (Const z) different h g = ap Const (one_value ds different form b y z h g)
  one_arg ds form b (Const y) (Var x) different h g = absurd (value_or_variable ds different form b y x h g)
  one_arg ds form b (Var x) (Const z) different h g = absurd (value_or_variable ds different form b z x g h)
  one_arg ds form b (Var x) (Var y) different h g = ap Var (one_variable ds different form b x y h g)

  pub one_scalar_arg : HasOneScalarArg
  one_scalar_arg ds form (expressions.Basic b) x y different h g = one_arg ds form b x y different h g
  one_scalar_arg ds form (expressions.List bs) x y different h g = absurd h

  one_list : (ds : List Declaration) (form : Form) (different : AreDifferent (names_of ds)) (bs : List Basic) (xs ys : List Arg) → AreArgs ds form bs xs → AreArgs ds form bs ys → xs ≡ ys
  one_list ds form different [] [] [] h g = refl
  one_list ds form different [] [] (y ∷ ys) h g = absurd g
  one_list ds form different [] (x ∷ xs) ys h g = absurd h
  one_list ds form different (b ∷ bs) [] ys h g = absurd h
  one_list ds form different (b ∷ bs) (x ∷ xs) [] h g = absurd g
  one_list ds form different (b ∷ bs) (x ∷ xs) (y ∷ ys) h g =
      let first : x ≡ y = one_arg ds form b x y different h.0 g.0 in
      let others : xs ≡ ys = one_list ds form different bs xs ys h.1 g.1 in
      cc

  pub one_arg_list : HasOneList → HasOneArgList
  one_arg_list lists ds form e xs ys different h g =
      let same : h.0 ≡ g.0 = lists ds e h.0 g.0 different h.1 g.1 in
      one_list ds form different g.0 xs ys (subst (λ bs. AreArgs ds form bs xs) same h.2) g.2
