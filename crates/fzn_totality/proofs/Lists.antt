-- Arrays of right declarations stand for lists, whose entries stand for something.
use Rattle.std.proofs.Common.{◌≡◌, inl, inr, ℕ, suc, ℤ, pos, true, false, List, [], ◌∷◌, length, slice_get, Some, refl, sym, ap, ◌∙◌, subst}
use Rattle.std.proofs.lemmas.List.Elements.{All-head, All-tail}
use Rattle.dom_core.specs.declared.arg.Arg.{Arg}
use Rattle.dom_definers.specs.declared.form.Form.{Form}
use Rattle.dom_definers.specs.declared.form.Form.TheVariants as forms
use Rattle.fzn_arguments.specs.Arguments.{AreArgs}
use Rattle.fzn_arguments.specs.Numbers.{base_of}
use Rattle.fzn_check.specs.Arguments as arguments
use Rattle.fzn_check.specs.DeclarationFaults.{is_constant, IsFine}
use Rattle.fzn_check.specs.Places.{named_in}
use Rattle.fzn_check.specs.Shapes.{last_of, IsLength}
use Rattle.fzn_check.specs.WellTyped.{AreEntries, IsParameters, AreConstants}
use Rattle.fzn_symbols.proofs.Places.{one_named}
use Rattle.fzn_symbols.specs.Bases.{base_of_parameter, base_of_variable}
use Rattle.fzn_symbols.specs.Named.{names_of, AreDifferent, IsNamed}
use Rattle.fzn_symbols.specs.Sorts.{sort, sort_of}
use Rattle.fzn_symbols.specs.Typing.{Fits, AllFit}
use Rattle.fzn_symbols.specs.declared.base.Base.{Base}
use Rattle.fzn_symbols.specs.declared.sort.Sort.{Sort}
use Rattle.fzn_symbols.specs.declared.typing.Instantiation.{Instantiation}
use Rattle.fzn_symbols.specs.declared.typing.Instantiation.TheVariants as instantiations
use Rattle.fzn_syntax.specs.declared.declaration.Declaration.{Declaration}
use Rattle.fzn_syntax.specs.declared.declaration.Declaration.TheVariants.{Parameter, Variable, ParameterArray, VariableArray}
use Rattle.fzn_syntax.specs.declared.declaration.ParameterArray as parameter
use Rattle.fzn_syntax.specs.declared.declaration.VariableArray as variable
use Rattle.fzn_syntax.specs.declared.expression.Basic.{Basic}
use Rattle.fzn_syntax.specs.declared.expression.Basic.TheVariants as basics
use Rattle.fzn_syntax.specs.declared.expression.Expression.{Expression}
use Rattle.fzn_syntax.specs.declared.expression.Expression.TheVariants as expressions
use Rattle.fzn_syntax.specs.declared.identifier.Identifier.{Identifier}
use Rattle.fzn_totality.proofs.Chains.{Likely, likely_typed, leads, Steps, ends}
use Rattle.fzn_totality.proofs.Scalars.{likely_value, likely_arg}
use Rattle.fzn_values.specs.Constants.{IsListOf, AreInts}
use Rattle.fzn_values.specs.Literals.{value_for, StandsFor, itself, through}
use Rattle.fzn_values.specs.declared.literal.LiteralKind.TheVariants as literals

-- ---- entries

fits_as_entry : (ds : List Declaration) (base : Base) (b : Basic) → Fits ds instantiations.Constant base b → Fits ds instantiations.Entry base b
fits_as_entry ds base basics.True h = h
fits_as_entry ds base basics.False h = h
fits_as_entry ds base (basics.Name n) h = inl h
fits_as_entry ds base (basics.Number z) h = h
fits_as_entry ds base (basics.Range r) h = h
fits_as_entry ds base (basics.Set zs) h = h

all_fit_as_entries : (ds : List Declaration) (base : Base) (bs : List Basic) → AllFit ds instantiations.Constant base bs → AllFit ds instantiations.Entry base bs
all_fit_as_entries ds base bs h = λ k d lt. fits_as_entry ds base _ (h k d lt)

module _ (ds : List Declaration) (different : AreDifferent (names_of ds)) (fine : IsFine ds) where
  pub likely_args : (form : Form) (bs : List Basic) → AllFit ds instantiations.Entry (base_of form) bs → Likely ((xs : List Arg) × AreArgs ds form bs xs × (length xs ≡ length bs))
  likely_args form [] h none = none ([], tt, refl)
  likely_args form (b ∷ bs) h none =
      let P : Basic → Type 0 = Fits ds instantiations.Entry (base_of form) in
      likely_arg ds different fine form b (All-head P b bs h) (λ x.
      likely_args form bs (All-tail P b bs h) (λ r. none (x.0 ∷ r.0, (x.1, r.1), ap suc r.2)))

  pub likely_ints : (bs : List Basic) → AllFit ds instantiations.Constant (base_of forms.Int) bs → Likely ((zs : List ℤ) × AreInts ds bs zs × (length zs ≡ length bs))
  likely_ints [] h none = none ([], tt, refl)
  likely_ints (b ∷ bs) h none =
      let P : Basic → Type 0 = Fits ds instantiations.Constant (base_of forms.Int) in
      likely_value ds different fine forms.Int b (All-head P b bs h) (λ z.
      likely_ints bs (All-tail P b bs h) (λ r. none (z.0 ∷ r.0, (z.1, r.1), ap suc r.2)))

  -- ---- arrays of constants

  module _ (base : Base) (last : ℤ) where
    -- the array's value stands for a list of so many constants
    abbrev HasConstants : Declaration → Type 0
    HasConstants d = (v : Expression) × (bs : List Basic) × (value_for literals.List d ≡ Some v) × StandsFor ds literals.List v (expressions.List bs) × (last ≡ pos (length bs)) × AllFit ds instantiations.Constant base bs

    array_is_constant : (d : Declaration) → IsParameters base last d → is_constant d ≡ true
    array_is_constant (ParameterArray a) h = refl
    array_is_constant (Parameter p) h = absurd h
    array_is_constant (Variable v) h = absurd h
    array_is_constant (VariableArray v) h = absurd h

    by_value : (k : ℕ) (a : parameter.ParameterArray) → slice_get ds k ≡ Some (ParameterArray a) → (v : Expression) → a.entries.value ≡ v → AreConstants ds base last v
        → Steps ds different fine (IsParameters base last) HasConstants k (ParameterArray a)
    by_value k a at (expressions.List bs) same h = inl (expressions.List bs, bs, ap Some same, itself refl refl, h.0, h.1)
    by_value k a at (expressions.Basic (basics.Name n)) same h =
        let there = h.1 in
        inr (
          there.0,
          h.0,
          there.1,
          h.2,
          leads ds different fine k there.0 (ParameterArray a) h.0 n.name at (ap (named_in ds) same) there.1 there.2,
          λ q. (expressions.Basic (basics.Name n), q.1, ap Some same, through n.name h.0 q.0 refl there q.2 q.3, q.4, q.5),
        )
    by_value k a at (expressions.Basic basics.True) same h = absurd h
    by_value k a at (expressions.Basic basics.False) same h = absurd h
    by_value k a at (expressions.Basic (basics.Number z)) same h = absurd h
    by_value k a at (expressions.Basic (basics.Range r)) same h = absurd h
    by_value k a at (expressions.Basic (basics.Set zs)) same h = absurd h

    step : (k : ℕ) (d : Declaration) → slice_get ds k ≡ Some d → IsParameters base last d → Likely (Steps ds different fine (IsParameters base last) HasConstants k d)
    step k (ParameterArray a) at h none =
        likely_typed ds different fine k (ParameterArray a) at (λ typed.
        none (by_value k a at a.entries.value refl
        (subst (λ x. AreConstants ds x last a.entries.value) h.0 (subst (λ x. AreConstants ds (base_of_parameter a.entries.element) x a.entries.value) h.1 typed.1))))
    step k (Parameter p) at h none = absurd h
    step k (Variable v) at h none = absurd h
    step k (VariableArray a) at h none = absurd h

    likely_constants : (n : List ℕ) (d : Declaration) → IsNamed ds n d → IsParameters base last d → Likely (HasConstants d)
    likely_constants n d named h = ends ds different fine (IsParameters base last) HasConstants array_is_constant step named.0 d named.1 h

  -- ---- arguments that are arrays

  -- the expression stands for a list of its length, whose entries fit
  abbrev pub HasList : Instantiation → Base → Expression → Type 0
  HasList r base e = (bs : List Basic) × IsListOf ds e bs × AllFit ds r base bs × ((z : ℤ) → IsLength ds e z → z ≡ pos (length bs))

  length_of_name : (n : Identifier) (d : Declaration) (m : ℤ) → IsNamed ds n.name d → last_of d ≡ Some m → (z : ℤ) → IsLength ds (expressions.Basic (basics.Name n)) z → z ≡ m
  length_of_name n d m named is z h =
      let same : h.0 ≡ d = one_named ds n.name d h.0 different named h.1 in
      let both : Some z ≡ Some m = sym h.2 ∙ ap last_of same ∙ is in
      cc

  by_parameters : (base : Base) (n : Identifier) (d : Declaration) → IsNamed ds n.name d → sort_of d ≡ sort base false true → Likely (HasList instantiations.Constant base (expressions.Basic (basics.Name n)))
  by_parameters base n (ParameterArray a) named is none =
      let fits : base_of_parameter a.entries.element ≡ base = ap (λ (s : Sort). s.base) is in
      likely_constants base a.index.last n.name (ParameterArray a) named (fits, refl) (λ q.
      none (q.1, through n.name (ParameterArray a) q.0 refl named q.2 q.3, q.5, λ z h. length_of_name n (ParameterArray a) a.index.last named refl z h ∙ q.4))
  by_parameters base n (Parameter p) named is none = let e : false ≡ true = ap (λ (s : Sort). s.is_array) is in absurd cc
  by_parameters base n (Variable v) named is none = let e : false ≡ true = ap (λ (s : Sort). s.is_array) is in absurd cc
  by_parameters base n (VariableArray a) named is none = let e : true ≡ false = ap (λ (s : Sort). s.is_variable) is in absurd cc

  by_entries : (base : Base) (n : Identifier) (a : variable.VariableArray) → IsNamed ds n.name (VariableArray a) → (v : Expression) → a.value ≡ v → AreEntries ds instantiations.Entry base a.index.last v
      → HasList instantiations.Entry base (expressions.Basic (basics.Name n))
  by_entries base n a named (expressions.Basic b) same h = absurd h
  by_entries base n a named (expressions.List bs) same h =
      (bs, through n.name (VariableArray a) (expressions.List bs) refl named (ap Some same) (itself refl refl), h.1, λ z l. length_of_name n (VariableArray a) a.index.last named refl z l ∙ h.0)

  by_variables : (base : Base) (n : Identifier) (d : Declaration) → IsNamed ds n.name d → sort_of d ≡ sort base true true → Likely (HasList instantiations.Entry base (expressions.Basic (basics.Name n)))
  by_variables base n (VariableArray a) named is none =
      let fits : base_of_variable a.element ≡ base = ap (λ (s : Sort). s.base) is in
      likely_typed ds different fine named.0 (VariableArray a) named.1 (λ typed.
      none (by_entries base n a named a.value refl (subst (λ x. AreEntries ds instantiations.Entry x a.index.last a.value) fits typed.1)))
  by_variables base n (ParameterArray a) named is none = let e : false ≡ true = ap (λ (s : Sort). s.is_variable) is in absurd cc
  by_variables base n (Parameter p) named is none = let e : false ≡ true = ap (λ (s : Sort). s.is_array) is in absurd cc
  by_variables base n (Variable v) named is none = let e : false ≡ true = ap (λ (s : Sort). s.is_array) is in absurd cc

  pub likely_constant_list : (base : Base) (e : Expression) → arguments.IsArray ds instantiations.Constant base e → Likely (HasList instantiations.Constant base e)
  likely_constant_list base (expressions.List bs) h none = none (bs, itself refl refl, h, λ z l. l)
  likely_constant_list base (expressions.Basic (basics.Name n)) h none = by_parameters base n h.0 h.1 h.2 none
  likely_constant_list base (expressions.Basic basics.True) h none = absurd h
  likely_constant_list base (expressions.Basic basics.False) h none = absurd h
  likely_constant_list base (expressions.Basic (basics.Number z)) h none = absurd h
  likely_constant_list base (expressions.Basic (basics.Range r)) h none = absurd h
  likely_constant_list base (expressions.Basic (basics.Set zs)) h none = absurd h

  pub likely_list : (base : Base) (e : Expression) → arguments.IsArray ds instantiations.Entry base e → Likely (HasList instantiations.Entry base e)
  likely_list base (expressions.List bs) h none = none (bs, itself refl refl, h, λ z l. l)
  likely_list base (expressions.Basic (basics.Name n)) h none =
      elim h [
        | inl c ↦ by_parameters base n c.0 c.1 c.2 (λ q. none (q.0, q.1, all_fit_as_entries ds base q.0 q.2, q.3))
        | inr v ↦ by_variables base n v.0 v.1 v.2 none
      ]
  likely_list base (expressions.Basic basics.True) h none = absurd h
  likely_list base (expressions.Basic basics.False) h none = absurd h
  likely_list base (expressions.Basic (basics.Number z)) h none = absurd h
  likely_list base (expressions.Basic (basics.Range r)) h none = absurd h
  likely_list base (expressions.Basic (basics.Set zs)) h none = absurd h
