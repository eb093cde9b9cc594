-- The numbers of variables, and which names have one.
use Rattle.std.proofs.Common.{◌≡◌, ℕ, zero, suc, ◌+◌, ◌<◌, ◌≤◌, cond, List, [], ◌∷◌, ◌++◌, length, get_or, slice_index_or, Some, slice_get, ◌⊎◌, inl, inr, refl, sym, ◌∙◌, ap, subst, arith}
use Rattle.std.proofs.lemmas.List.Sums.{sum_by_more, sum_by-take-le}
use Rattle.std.proofs.lemmas.Option.{slice_get_within, get_or_from_slice_get}
use Rattle.dom_core.specs.declared.var_id.VarId.{VarId}
use Rattle.dom_definers.specs.declared.form.Form.{Form}
use Rattle.fzn_arguments.specs.Numbers.{IsOfForm, number_at, AreNumbers, IsNumbered}
use Rattle.fzn_limits.specs.Sizes.{is_variable, variables_in}
use Rattle.fzn_symbols.specs.Named.{names_of, AreDifferent, IsPlaced, IsUndeclared}
use Rattle.fzn_symbols.proofs.Places.{named_at}
use Rattle.fzn_syntax.specs.declared.declaration.Declaration.{Declaration}

-- ---- which names have a number

-- an undeclared name has none
pub undeclared_none : (ds : List Declaration) (form : Form) (n : List ℕ) → IsUndeclared ds n → (x : VarId) → IsNumbered ds form n x → ⊥
undeclared_none ds form n none x h = none h.declaration (h.place, h.declared, h.named)

module _ (ds es : List Declaration) (form : Form) (n : List ℕ) (k : ℕ) (r : Declaration) (p : IsPlaced ds n k) (all : es ≡ ds) (is : r ≡ get_or es k r) where
  placed : r ≡ p.0
  placed = is ∙ ap (λ cs. get_or cs k r) all ∙ get_or_from_slice_get ds k p.0 r p.1

  -- nor has one that is no such variable's
  pub other_none : AreDifferent (names_of ds) → (IsOfForm form r → ⊥) → (x : VarId) → IsNumbered ds form n x → ⊥
  other_none different other x h =
      let same : h.place ≡ k = different h.place k n (named_at ds n h.place h.declaration h.declared h.named) (named_at ds n k p.0 p.1 p.2) in
      let there : slice_get ds k ≡ Some h.declaration = subst (λ j. slice_get ds j ≡ Some h.declaration) same h.declared in
      let one : p.0 ≡ h.declaration = some_one (sym p.1 ∙ there) in
      other (subst (IsOfForm form) (sym (placed ∙ one)) h.of_form)
    where
      some_one : {a b : Declaration} → Some a ≡ Some b → a ≡ b
      some_one e = cc

  -- such a variable's name has the number at its place
  pub variable_number : (ns : List ℕ) → AreNumbers ds ns → IsOfForm form r → IsNumbered ds form n (record { 0 = slice_index_or ns k 0 })
  variable_number ns numbers h = record {
    place = k;
    declaration = p.0;
    declared = p.1;
    named = p.2;
    of_form = subst (IsOfForm form) placed h;
    number = get_or_from_slice_get ns k (number_at ds k) 0 (numbers.at k (slice_get_within ds k p.0 p.1));
  }

-- ---- one number more

abbrev one_if_variable : Declaration → ℕ
one_if_variable d = cond (is_variable d) 1 0

pub number_more : (ds : List Declaration) (i : ℕ) (d : Declaration) → i < length ds → d ≡ get_or ds i d → number_at ds (i + 1) ≡ number_at ds i + cond (is_variable d) 1 0
number_more ds i d within is = sum_by_more one_if_variable ds i d within ∙ ap (λ e. number_at ds i + one_if_variable e) (sym is)

-- the first of some declarations have at most as many variables
pub number_bounded : (ds : List Declaration) (i : ℕ) → number_at ds i ≤ variables_in ds
number_bounded ds i = sum_by-take-le one_if_variable ds i

push_at : (ns : List ℕ) (x k : ℕ) → k < length ns → slice_get (ns ++ x ∷ []) k ≡ slice_get ns k
push_at [] x k lt = absurd (omega arith)
push_at (n ∷ ns) x zero lt = refl
push_at (n ∷ ns) x (suc k) lt = push_at ns x k (omega arith)

push_last : (ns : List ℕ) (x : ℕ) → slice_get (ns ++ x ∷ []) (length ns) ≡ Some x
push_last [] x = refl
push_last (n ∷ ns) x = push_last ns x

below_or_last : (k i : ℕ) → k < i + 1 → (k < i) ⊎ (k ≡ i)
below_or_last zero zero lt = inr refl
below_or_last zero (suc i) lt = inl (omega arith)
below_or_last (suc k) zero lt = absurd (omega arith)
below_or_last (suc k) (suc i) lt = elim (below_or_last k i (omega arith)) [ inl h ↦ inl (omega (arith, h)) | inr h ↦ inr (ap suc h) ]

pub at_more : (ns : List ℕ) (x i : ℕ) (f : ℕ → ℕ) → length ns ≡ i → ((k : ℕ) → k < i → slice_get ns k ≡ Some (f k)) → x ≡ f i
    → (k : ℕ) → k < i + 1 → slice_get (ns ++ x ∷ []) k ≡ Some (f k)
at_more ns x i f size h is k lt =
    elim (below_or_last k i lt) [
      | inl b ↦ push_at ns x k (omega (arith, size, b)) ∙ h k b
      | inr e ↦ rw (e, ← size) (push_last ns x ∙ ap Some (is ∙ ap f (sym size)))
    ]
