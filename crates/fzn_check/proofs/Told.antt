-- What calls tell of names, lengths and rows.
use Rattle.std.proofs.Common.{◌≡◌, ◌↔◌, ℕ, ◌+◌, ◌<◌, ◌≤◌, ◌⊎◌, inl, inr, ℤ, Bool, true, false, List, length, get_or, slice_get, Option, None, Some, Result, Ok, Err, IfOk, MatchOption, IfSome, IsTrue, refl, sym, ◌∙◌, ap, subst, arith}
use Rattle.std.proofs.lemmas.Option.{slice_get_within, slice_get_read, same_Some}
use Rattle.fzn_syntax.specs.declared.constraint.Constraint.{Constraint}
use Rattle.fzn_syntax.specs.declared.declaration.Declaration.{Declaration}
use Rattle.fzn_syntax.specs.declared.expression.Basic.{Basic}
use Rattle.fzn_syntax.specs.declared.expression.Basic.TheVariants as basics
use Rattle.fzn_syntax.specs.declared.expression.Expression.{Expression}
use Rattle.fzn_syntax.specs.declared.identifier.Identifier.{Identifier}
use Rattle.fzn_check.specs.Found.{IsOnly}
use Rattle.fzn_signatures.specs.declared.argument_type.ArgumentType.{ArgumentType}
use Rattle.fzn_signatures.specs.Table.{table, Entry, IsEntryOf, IsUnlisted}
use Rattle.fzn_symbols.specs.Named.{IsNamed, IsUndeclared}
use Rattle.fzn_values.specs.Constants.{AreIntsOf}
use Rattle.fzn_check.specs.Arguments.{IsOfType, IsArgumentAt, AreArguments}
use Rattle.fzn_check.specs.Shapes.{last_of, IsLengthOfName, IsLength, HaveOneLength, HaveOneLengthAt, AreDifferent, HasDifferent, HasDifferentAt}
use Rattle.fzn_check.specs.Posted.{FitsEntry, IsPosted}

pub neither : (P : Type 0) → (P → ⊥) → IsTrue false ↔ P
neither P not = (λ h. absurd cc, λ h. absurd (not h))

pub both : (P : Type 0) → P → IsTrue true ↔ P
both P p = (λ h. p, λ h. refl)

-- ---- lengths

module _ (ds : List Declaration) (b : Basic) (n : Identifier) (m : List ℕ) where
  length_by : (z : ℤ) → b ≡ basics.Name n → m ≡ n.name → IsLengthOfName ds b z → (d : Declaration) × IsNamed ds m d × (last_of d ≡ Some z)
  length_by z is same h =
      let g : (d : Declaration) × IsNamed ds n.name d × (last_of d ≡ Some z) = subst (λ x. IsLengthOfName ds x z) is h in
      (g.0, subst (λ k. IsNamed ds k g.0) (sym same) g.1, g.2)

  pub length_none : b ≡ basics.Name n → m ≡ n.name → IsUndeclared ds m → (z : ℤ) → IsLengthOfName ds b z → ⊥
  length_none is same none z h = let g = length_by z is same h in none g.0 g.1

  module _ (d : Declaration) where
    length_of : (z : ℤ) → b ≡ basics.Name n → m ≡ n.name → IsOnly ds m d → IsLengthOfName ds b z → last_of d ≡ Some z
    length_of z is same only h = let g = length_by z is same h in sym (ap last_of (only.1 g.0 g.1)) ∙ g.2

    pub length_is : (r : Option ℤ) → b ≡ basics.Name n → m ≡ n.name → IsOnly ds m d → r ≡ last_of d → MatchOption r ((z : ℤ) → IsLengthOfName ds b z → ⊥) (IsLengthOfName ds b)
    length_is None is same only told = λ z h. let e = length_of z is same only h in absurd cc
    length_is (Some z) is same only told =
        let g : (x : Declaration) × IsNamed ds n.name x × (last_of x ≡ Some z) = (d, subst (λ k. IsNamed ds k d) same only.0, sym told) in
        subst (λ x. IsLengthOfName ds x z) (sym is) g

    pub length_only : (r : Option ℤ) → b ≡ basics.Name n → m ≡ n.name → IsOnly ds m d → r ≡ last_of d → IfSome r (λ z. (y : ℤ) → IsLengthOfName ds b y → y ≡ z)
    length_only None is same only told = tt
    length_only (Some z) is same only told = λ y h. same_Some y z (sym (length_of y is same only h) ∙ sym told)

pub lengths : (ds : List Declaration) (a b : Expression) (x y : ℤ) (r : Bool) → IsLength ds a x → ((z : ℤ) → IsLength ds a z → z ≡ x) → IsLength ds b y → ((z : ℤ) → IsLength ds b z → z ≡ y)
    → IsTrue r ↔ (x ≡ y) → IsTrue r ↔ HaveOneLength ds a b
lengths ds a b x y r is only is2 only2 told =
    (λ h. (x, is, subst (λ z. IsLength ds b z) (sym (told.0 h)) is2), λ h. told.1 (sym (only h.0 h.1) ∙ only2 h.0 h.2))

pub lengths_at : (ds : List Declaration) (es : List Expression) (i j : ℕ) (a b : Expression) (r : Bool) → slice_get es i ≡ Some a → slice_get es j ≡ Some b → IsTrue r ↔ HaveOneLength ds a b → IsTrue r ↔ HaveOneLengthAt ds es i j
lengths_at ds es i j a b r at at2 told = (
  λ h. (a, b, at, at2, told.0 h),
  λ h. told.1 (subst (λ x. HaveOneLength ds a x) (same_Some h.1 b (sym h.3 ∙ at2)) (subst (λ x. HaveOneLength ds x h.1) (same_Some h.0 a (sym h.2 ∙ at)) h.4)),
)

pub different_at : (ds : List Declaration) (es : List Expression) (i : ℕ) (e : Expression) (r : Bool) → slice_get es i ≡ Some e → IsTrue r ↔ HasDifferent ds e → IsTrue r ↔ HasDifferentAt ds es i
different_at ds es i e r at told = (λ h. (e, at, told.0 h), λ h. told.1 (subst (λ x. HasDifferent ds x) (same_Some h.0 e (sym h.1 ∙ at)) h.2))

pub different_of : (ds : List Declaration) (e : Expression) (zs : List ℤ) (r : Bool) → AreIntsOf ds e zs → ((ys : List ℤ) → AreIntsOf ds e ys → ys ≡ zs) → IsTrue r ↔ AreDifferent zs → IsTrue r ↔ HasDifferent ds e
different_of ds e zs r is only told = (λ h. (zs, is, told.0 h), λ h. told.1 (subst (λ x. AreDifferent x) (only h.0 h.1) h.2))

pub argument_at : (ds : List Declaration) (t : ArgumentType) (es : List Expression) (k : ℕ) (e : Expression) (r : Bool) → slice_get es k ≡ Some e → IsTrue r ↔ IsOfType ds t e → IsTrue r ↔ IsArgumentAt ds t es k
argument_at ds t es k e r at told = (λ h. (e, at, told.0 h), λ h. told.1 (subst (λ x. IsOfType ds t x) (same_Some h.0 e (sym h.1 ∙ at)) h.2))

-- ---- rows

one_entry : (name : List ℕ) (e f : Entry) → ((i j : ℕ) (x y : Entry) → slice_get table i ≡ Some x → slice_get table j ≡ Some y → x.name ≡ y.name → i ≡ j) → IsEntryOf name e → IsEntryOf name f → f ≡ e
one_entry name e f one h g =
    let same : g.0 ≡ h.0 = one g.0 h.0 f e g.1 h.1 (g.2 ∙ sym h.2) in
    same_Some f e (sym (subst (λ k. slice_get table k ≡ Some f) same g.1) ∙ h.1)

module _ (ds : List Declaration) (c : Constraint) (m : List ℕ) (same : m ≡ c.name.name) where
  pub unlisted : IsUnlisted m → IsTrue false ↔ IsPosted ds c
  unlisted none = neither (IsPosted ds c) (λ h. none h.0 (subst (λ k. IsEntryOf k h.0) (sym same) h.1))

  listed : (e : Entry) → ((i j : ℕ) (x y : Entry) → slice_get table i ≡ Some x → slice_get table j ≡ Some y → x.name ≡ y.name → i ≡ j) → IsEntryOf m e → (b : Bool) → IsTrue b ↔ FitsEntry ds e c.arguments → IsTrue b ↔ IsPosted ds c
  listed e one is b told =
      let here : IsEntryOf c.name.name e = subst (λ k. IsEntryOf k e) same is in
      (λ h. (e, here, told.0 h), λ h. told.1 (subst (λ x. FitsEntry ds x c.arguments) (one_entry c.name.name e h.0 one here h.1) h.2))

  pub told_by_row : {E : Type 0} (e : Entry) (es : List Expression) (r : Result Bool E) → es ≡ c.arguments → ((i j : ℕ) (x y : Entry) → slice_get table i ≡ Some x → slice_get table j ≡ Some y → x.name ≡ y.name → i ≡ j)
      → IsEntryOf m e → IfOk r (λ b. IsTrue b ↔ FitsEntry ds e es) → IfOk r (λ b. IsTrue b ↔ IsPosted ds c)
  told_by_row e es (Err x) all one is h = tt
  told_by_row e es (Ok b) all one is h = listed e one is b (subst (λ xs. IsTrue b ↔ FitsEntry ds e xs) all h)

-- both parts are asked
pub both_told : {E : Type 0} (P Q : Type 0) (r : Result Bool E) → P → IfOk r (λ b. IsTrue b ↔ Q) → IfOk r (λ b. IsTrue b ↔ (P × Q))
both_told P Q (Err x) p h = tt
both_told P Q (Ok b) p h = (λ t. (p, h.0 t), λ t. h.1 t.1)

pub none_told : (P Q : Type 0) → (P → ⊥) → IsTrue false ↔ (P × Q)
none_told P Q not = neither (P × Q) (λ h. not h.0)

pub different_told : {E : Type 0} (ds : List Declaration) (e : Expression) (zs ys : List ℤ) (r : Result Bool E) → ys ≡ zs → AreIntsOf ds e zs → ((xs : List ℤ) → AreIntsOf ds e xs → xs ≡ zs)
    → IfOk r (λ b. IsTrue b ↔ AreDifferent ys) → IfOk r (λ b. IsTrue b ↔ HasDifferent ds e)
different_told ds e zs ys (Err x) same is only h = tt
different_told ds e zs ys (Ok b) same is only h = different_of ds e zs b is only (subst (λ xs. IsTrue b ↔ AreDifferent xs) same h)

pub no_different : (ds : List Declaration) (e : Expression) → ((zs : List ℤ) → AreIntsOf ds e zs → ⊥) → IsTrue false ↔ HasDifferent ds e
no_different ds e none = neither (HasDifferent ds e) (λ h. none h.0 h.1)

pub no_fault_of : (b : Bool) → (b ≡ false → ⊥) → b ≡ true
no_fault_of true not = refl
no_fault_of false not = absurd (not refl)

-- ---- arguments one by one

same_or_other : (i j : ℕ) → (i ≡ j) ⊎ (i ≡ j → ⊥)
same_or_other i j = grind arith

module _ (ds : List Declaration) (ts : List ArgumentType) (es : List Expression) where
  pub arguments_more : (i : ℕ) (t : ArgumentType) → slice_get ts i ≡ Some t → ((k : ℕ) (x : ArgumentType) → k < i → slice_get ts k ≡ Some x → IsArgumentAt ds x es k) → IsArgumentAt ds t es i
      → (k : ℕ) (x : ArgumentType) → k < i + 1 → slice_get ts k ≡ Some x → IsArgumentAt ds x es k
  arguments_more i t at before is k x lt there =
      elim (same_or_other k i) [
        | inl same ↦ (
            let one : t ≡ x = same_Some t x (sym at ∙ subst (λ j. slice_get ts j ≡ Some x) same there) in
            subst (λ y. IsArgumentAt ds y es k) one (subst (λ j. IsArgumentAt ds t es j) (sym same) is))
        | inr apart ↦ before k x (omega (arith, lt, apart)) there
      ]

  pub arguments_whole : (i : ℕ) → length es ≡ length ts → length ts ≤ i → ((k : ℕ) (x : ArgumentType) → k < i → slice_get ts k ≡ Some x → IsArgumentAt ds x es k) → AreArguments ds ts es
  arguments_whole i size whole before = (size, λ k t at. before k t (omega (arith, whole, slice_get_within ts k t at)) at)

  pub argument_item : (i : ℕ) (t : ArgumentType) → i < length ts → t ≡ get_or ts i t → slice_get ts i ≡ Some t
  argument_item i t lt is = slice_get_read ts (length ts) i t refl lt is
