-- What right declarations say is built: variables, initialisers, and what is printed.
use Rattle.std.proofs.Common.{◌≡◌, inl, ℕ, ◌+◌, suc, Bool, true, false, cond, codes, if◌then◌else◌, List, [], ◌∷◌, ◌++◌, map, slice_get, Option, Some, None, MatchOption, All, refl, sym, ap, subst, arith}
use Rattle.std.specs.List.{AllByRecursion, find}
use Rattle.std.proofs.lemmas.Int.{ints}
use Rattle.std.proofs.lemmas.List.Elements.{All-nil, All-cons, All-head, All-tail}
use Rattle.std.proofs.lemmas.Option.{same_Some}
use Rattle.std.proofs.lemmas.Slice.Eq.{bytes_eq-Decides}
use Rattle.dom_core.specs.Small.{IsSmall}
use Rattle.dom_definers.specs.declared.form.Form.{Form}
use Rattle.dom_definers.specs.declared.posted.Posted.{Posted}
use Rattle.dom_model.specs.Draft.{AreSmallIntegers, IsSmallDeclared}
use Rattle.dom_model.specs.declared.output.Output.{Output}
use Rattle.dom_model.specs.declared.output.Output.TheVariants.{Array}
use Rattle.fzn_arguments.specs.Numbers.{base_of}
use Rattle.fzn_check.specs.Declares.{DeclaresFloatOrSet}
use Rattle.fzn_check.specs.DeclarationFaults.{IsFine}
use Rattle.fzn_check.specs.OutputArrays.{IsOutputArrayOf}
use Rattle.fzn_check.specs.WellTyped.{AreEntries, IsWellTypedArray}
use Rattle.fzn_model.specs.Found.{count_by, listed, AreFound}
use Rattle.fzn_model.specs.Outputs.{is_named, is_marked, mark_of, scalar_output, IsMarkedOutput, IsOutput}
use Rattle.fzn_model.specs.Posting.{initial, IsInitialised, IsInitial}
use Rattle.fzn_model.specs.Variables.{integer_of, declared_element, declared_of, form_of, IsBuilt, IsBuiltType}
use Rattle.fzn_symbols.specs.Bases.{is_integer_element, base_of_variable}
use Rattle.fzn_symbols.specs.Named.{names_of, AreDifferent}
use Rattle.fzn_symbols.specs.Typing.{IsScalar}
use Rattle.fzn_symbols.specs.declared.base.Base.TheVariants as bases
use Rattle.fzn_symbols.specs.declared.typing.Instantiation.TheVariants as instantiations
use Rattle.fzn_syntax.proofs.Spelled.{IsSpelledNumber, AreSpelled, IsSpelledElement, IsSpelledVariableType}
use Rattle.fzn_syntax.proofs.SpelledItems.{IsSpelledDeclaration}
use Rattle.fzn_syntax.specs.declared.annotation.Annotation.{Annotation}
use Rattle.fzn_syntax.specs.declared.declaration.Declaration.{Declaration}
use Rattle.fzn_syntax.specs.declared.declaration.Declaration.TheVariants.{Parameter, Variable, ParameterArray, VariableArray}
use Rattle.fzn_syntax.specs.declared.declaration.VariableArray as syntax
use Rattle.fzn_syntax.specs.declared.element.Element.{Element}
use Rattle.fzn_syntax.specs.declared.element.Element.TheVariants as elements
use Rattle.fzn_syntax.specs.declared.element.VariableType.{VariableType}
use Rattle.fzn_syntax.specs.declared.element.VariableType.TheVariants as types
use Rattle.fzn_syntax.specs.declared.expression.Expression.{Expression}
use Rattle.fzn_syntax.specs.declared.expression.Expression.TheVariants as expressions
use Rattle.fzn_syntax.specs.declared.number.Number.{Number}
use Rattle.fzn_syntax.specs.declared.number.Number.TheVariants as numbers
use Rattle.fzn_totality.proofs.Chains.{Likely, no_float, likely_typed}
use Rattle.fzn_totality.proofs.Lists.{likely_args}
use Rattle.fzn_totality.proofs.Scalars.{likely_arg}
use Rattle.fzn_values.specs.Literals.{is_literal, itself}
use Rattle.fzn_values.specs.declared.literal.LiteralKind.TheVariants as literals

-- ---- types

plain_built : (b : Bool) → ((if b then bases.Int else bases.FloatOrSet) ≡ bases.FloatOrSet → ⊥) → (if b then bases.Int else bases.FloatOrSet) ≡ bases.Int
plain_built true not = refl
plain_built false not = absurd (not refl)

type_built : (t : VariableType) → (base_of_variable t ≡ bases.FloatOrSet → ⊥) → IsBuiltType t
type_built types.Bool not = refl
type_built (types.Plain e) not = plain_built (is_integer_element e) not
type_built (types.SetOf e) not = absurd (not refl)

small_number : (n : Number) → IsSpelledNumber n → IsSmall (integer_of n)
small_number (numbers.Int z) h = record { low = h.low; high = h.high }
small_number (numbers.Float text) h = record { low = omega (arith, ints); high = omega (arith, ints) }

small_numbers : (ns : List Number) → AreSpelled ns → AreSmallIntegers (map integer_of ns)
small_numbers [] h = tt
small_numbers (n ∷ ns) h = (small_number n h.0, small_numbers ns h.1)

small_element : (e : Element) → IsSpelledElement e → IsSmallDeclared (declared_element e)
small_element elements.Int h = tt
small_element elements.Float h = tt
small_element (elements.Range b) h = (small_number b.lower h.0, small_number b.upper h.1)
small_element (elements.Set ns) h = small_numbers ns h

small_type : (t : VariableType) → IsSpelledVariableType t → IsSmallDeclared (declared_of t)
small_type types.Bool h = tt
small_type (types.Plain e) h = small_element e h
small_type (types.SetOf e) h = tt

-- ---- the first that passes

module _ {X : Type 0} (p : X → Bool) (P : X → Type 0) where
  -- it has what each has, and passes
  found : (xs : List X) (x : X) → find p xs ≡ Some x → All P xs → P x × (p x ≡ true)
  found [] x e h = absurd cc
  found (y ∷ xs) x e h = by (p y) refl e (λ more. found xs x more (All-tail P y xs h))
    where
      by : (b : Bool) → p y ≡ b → cond b (Some y) (find p xs) ≡ Some x → (find p xs ≡ Some x → P x × (p x ≡ true)) → P x × (p x ≡ true)
      by true passes f later = let same : y ≡ x = same_Some y x f in (subst P same (All-head P y xs h), subst (λ z. p z ≡ true) same passes)
      by false fails f later = later f

-- ---- declarations

-- what is so at each place is so of each
pub at_places : {X : Type 0} (P : X → Type 0) (xs : List X) → ((k : ℕ) (x : X) → slice_get xs k ≡ Some x → P x) → AllByRecursion P xs
at_places P [] h = tt
at_places P (x ∷ xs) h = (h 0 x refl, at_places P xs (λ k y at. h (suc k) y at))

-- at each declaration one thing is found, so there is the list of all
pub likely_found : {X : Type 0} (F : ℕ → Declaration → Option X → Type 0) (i : ℕ) (ds : List Declaration) → AllByRecursion (λ d. (j : ℕ) → Likely ((r : Option X) × F j d r)) ds
    → Likely ((xs : List X) × AreFound F i ds xs)
likely_found F i [] h none = none ([], refl)
likely_found F i (d ∷ ds) h none = h.0 i (λ r. likely_found F (i + count_by d) ds h.1 (λ q. none (listed r.0 ++ q.0, (r.0, q.0, r.1, refl, q.1))))

module _ (ds : List Declaration) (different : AreDifferent (names_of ds)) (fine : IsFine ds) where
  -- the type of the variable or array of variables at this place is of truth values or of integers
  variable_built : (k : ℕ) (t : VariableType) (d : Declaration) → slice_get ds k ≡ Some d → (base_of_variable t ≡ bases.FloatOrSet → DeclaresFloatOrSet ds d) → IsBuiltType t
  variable_built k t d at declares = type_built t (λ is. no_float ds different fine k d at (declares is))

  declaration_built : (k : ℕ) (d : Declaration) → slice_get ds k ≡ Some d → IsSpelledDeclaration d → IsBuilt d
  declaration_built k (Parameter p) at spelled = tt
  declaration_built k (Variable v) at spelled = record { typed = variable_built k v.element (Variable v) at (λ is. inl is); small = small_type v.element spelled.0 }
  declaration_built k (ParameterArray a) at spelled = tt
  declaration_built k (VariableArray a) at spelled = tt

  built_from : (es : List Declaration) → AllByRecursion IsSpelledDeclaration es → AllByRecursion (λ d. IsSpelledDeclaration d → IsBuilt d) es → All IsBuilt es
  built_from [] spelled built = All-nil IsBuilt
  built_from (d ∷ es) spelled built = All-cons IsBuilt d es (built.0 spelled.0) (built_from es spelled.1 built.1)

  pub all_built : AllByRecursion IsSpelledDeclaration ds → All IsBuilt ds
  all_built spelled = built_from ds spelled (at_places (λ d. IsSpelledDeclaration d → IsBuilt d) ds declaration_built)

  -- ---- initialisers

  by_value : (form : Form) (i : ℕ) (o : Option Expression) → MatchOption o (Unit {0}) (IsScalar ds instantiations.Entry (base_of form)) → Likely ((r : Option Posted) × IsInitialised ds form i o r)
  by_value form i None h none = none (None, refl)
  by_value form i (Some (expressions.Basic b)) h none = likely_arg ds different fine form b h (λ x. none (Some (initial (record { 0 = i }) x.0), (x.0, x.1, refl)))
  by_value form i (Some (expressions.List bs)) h none = absurd h

  pub likely_initial : (k : ℕ) (d : Declaration) → slice_get ds k ≡ Some d → (i : ℕ) → Likely ((r : Option Posted) × IsInitial ds i d r)
  likely_initial k (Parameter p) at i none = none (None, refl)
  likely_initial k (Variable v) at i none =
      let base = variable_built k v.element (Variable v) at (λ is. inl is) in
      likely_typed ds different fine k (Variable v) at (λ typed.
      by_value (form_of v.element) i v.value (subst (λ x. MatchOption v.value (Unit {0}) (IsScalar ds instantiations.Entry x)) base typed) none)
  likely_initial k (ParameterArray a) at i none = none (None, refl)
  likely_initial k (VariableArray a) at i none = none (None, refl)

  -- ---- what is printed

  by_entries : (a : syntax.VariableArray) (mark : Annotation) → IsBuiltType a.element → (e : Expression) → a.value ≡ e → AreEntries ds instantiations.Entry (base_of (form_of a.element)) a.index.last e
      → IsOutputArrayOf a.index.last mark → is_named (codes "output_array") mark ≡ true → Likely ((o : Output) × IsMarkedOutput ds a (Some mark) (Some o))
  by_entries a mark base (expressions.Basic b) same h sets marks none = absurd h
  by_entries a mark base (expressions.List bs) same h sets marks none =
      let right = sets ((bytes_eq-Decides mark.name.name (codes "output_array")).0 marks) in
      let given = right.2 in
      likely_args ds different fine (form_of a.element) bs h.1 (λ xs.
      none (
        Array a.name.name (form_of a.element) given.0 xs.0,
        record {
          typed = base;
          sets = given.0;
          marked = given.1;
          indexed = record { named = refl; formed = refl; indexed = refl; listed = (bs, itself (ap (is_literal literals.List) same) (sym same), xs.1) };
        },
      ))

  by_mark : (a : syntax.VariableArray) → IsBuiltType a.element → IsWellTypedArray ds a → (mark : Option Annotation) → mark_of a.annotations ≡ mark → Likely ((o : Option Output) × IsMarkedOutput ds a mark o)
  by_mark a base typed None is none = none (None, refl)
  by_mark a base typed (Some mark) is none =
      let first = found (is_named (codes "output_array")) (IsOutputArrayOf a.index.last) a.annotations mark is typed.2 in
      by_entries a mark base a.value refl (subst (λ x. AreEntries ds instantiations.Entry x a.index.last a.value) base typed.1) first.0 first.1 (λ o. none (Some o.0, o.1))

  pub likely_output : (k : ℕ) (d : Declaration) → slice_get ds k ≡ Some d → (i : ℕ) → Likely ((o : Option Output) × IsOutput ds i d o)
  likely_output k (Parameter p) at i none = none (None, refl)
  likely_output k (Variable v) at i none = none (scalar_output (is_marked v.annotations) i, refl)
  likely_output k (ParameterArray a) at i none = none (None, refl)
  likely_output k (VariableArray a) at i none =
      let base = variable_built k a.element (VariableArray a) at (λ is. inl is) in
      likely_typed ds different fine k (VariableArray a) at (λ typed. by_mark a base typed (mark_of a.annotations) refl none)
