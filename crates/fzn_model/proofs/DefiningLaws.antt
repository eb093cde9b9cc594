-- Which variable a written constraint defines.
use Rattle.std.proofs.Common.{◌≡◌, ◌↔◌, ℕ, ◌+◌, ◌<◌, Bool, true, List, [], ◌∷◌, length, drop, get_or, Option, Some, None, inl, inr, sym, ◌∙◌, ap, subst}
use Rattle.std.proofs.lemmas.List.{drop_more}
use Rattle.std.proofs.lemmas.Option.{same_Some}
use Rattle.any_kind.specs.declared.any.AnyKind.{AnyKind}
use Rattle.dom_core.specs.declared.var_id.VarId.{VarId}
use Rattle.dom_definers.specs.declared.form.Form.{Form}
use Rattle.fzn_arguments.specs.Numbers.{IsNumbered, number_at}
use Rattle.fzn_forms.proofs.Single.{HasOneRow, one_entry}
use Rattle.fzn_model.specs.Defining.{Converts, Defines, DefinesBy, DefinesNamed, has_shape, MayDefine}
use Rattle.fzn_signatures.specs.Table.{Entry, IsEntryOf, IsUnlisted}
use Rattle.fzn_signatures.specs.declared.shape.Shape.TheVariants.{Conversion}
use Rattle.fzn_symbols.proofs.Places.{named_at}
use Rattle.fzn_symbols.specs.Named.{names_of, AreDifferent}
use Rattle.fzn_syntax.specs.declared.annotation.Annotation.{Annotation}
use Rattle.fzn_syntax.specs.declared.declaration.Declaration.{Declaration}
use Rattle.kind_law.proofs.ArgumentLaws.{same_var}

-- ---- constraints that make an integer of a truth value

pub unlisted_converts : (name : List ℕ) → IsUnlisted name → Converts name → ⊥
unlisted_converts name none h = none h.0 h.1

pub entry_converts : HasOneRow → (name : List ℕ) (e : Entry) (b : Bool) → IsEntryOf name e → (b ≡ true) ↔ (e.shape ≡ Conversion) → (b ≡ true) ↔ Converts name
entry_converts row name e b is told =
    (λ t. (e, is, told.0 t), λ h. told.1 (ap (λ (f : Entry). f.shape) (one_entry row name e h.0 is h.1) ∙ h.2))

-- ---- one variable

module _ (ds : List Declaration) (different : AreDifferent (names_of ds)) where
  -- a name is that of one variable, whatever its form
  pub one_numbered : (form other : Form) (n : List ℕ) (x y : VarId) → IsNumbered ds form n x → IsNumbered ds other n y → x ≡ y
  one_numbered form other n x y h g =
      let same : g.place ≡ h.place =
      different g.place h.place n (named_at ds n g.place g.declaration g.declared g.named) (named_at ds n h.place h.declaration h.declared h.named) in
      sym (same_var x y (g.number ∙ ap (number_at ds) same ∙ sym h.number))

  module _ (defined : List Bool) (name : List ℕ) (k : AnyKind) where
    pub barred_none : (n : List ℕ) (form : Form) (x : VarId) → IsNumbered ds form n x → (MayDefine defined name k form x → ⊥) → (y : VarId) → DefinesNamed ds defined name k n form y → ⊥
    barred_none n form x numbered not y h = not (subst (MayDefine defined name k form) (one_numbered form form n y x h.0 numbered) h.1)

module _ (ds : List Declaration) (defined : List Bool) (name : List ℕ) (k : AnyKind) where
  -- ---- all annotations

  module _ (different : AreDifferent (names_of ds)) where
    one_by : (a : Annotation) (x y : VarId) → DefinesBy ds defined name k a x → DefinesBy ds defined name k a y → x ≡ y
    one_by a x y h g =
        let same : h.0 ≡ g.0 = same_Some h.0 g.0 (sym h.1 ∙ g.1) in
        one_numbered ds different h.2 g.2 g.0 x y (subst (λ n. IsNumbered ds h.2 n x) same h.3.0) g.3.0

    pub one_defines : (marks : List Annotation) (r q : Option VarId) → Defines ds defined name k marks r → Defines ds defined name k marks q → r ≡ q
    one_defines [] r q h g = h ∙ sym g
    one_defines (a ∷ rest) r q (inl h) (inl g) = h.2 ∙ ap (λ (x : VarId). Some x) (one_by a h.0 g.0 h.1 g.1) ∙ sym g.2
    one_defines (a ∷ rest) r q (inl h) (inr g) = absurd (g.0 h.0 h.1)
    one_defines (a ∷ rest) r q (inr h) (inl g) = absurd (h.0 g.0 g.1)
    one_defines (a ∷ rest) r q (inr h) (inr g) = one_defines rest r q h.1 g.1

  -- what the rest defines is what all define
  abbrev pub Decides : List Annotation → ℕ → Type 0
  Decides marks i = (r : Option VarId) → Defines ds defined name k (drop i marks) r → Defines ds defined name k marks r

  module _ (marks : List Annotation) (i : ℕ) (a : Annotation) (within : i < length marks) (is : a ≡ get_or marks i a) (so_far : Decides marks i) where
    split : drop i marks ≡ a ∷ drop (i + 1) marks
    split = drop_more marks i a within ∙ ap (λ b. b ∷ drop (i + 1) marks) (sym is)

    pub decides_more : ((x : VarId) → DefinesBy ds defined name k a x → ⊥) → Decides marks (i + 1)
    decides_more none r rest = so_far r (subst (λ bs. Defines ds defined name k bs r) (sym split) (inr (none, rest)))

  -- what is defined is defined by an annotation
  pub defines_shaped : (marks : List Annotation) (r : Option VarId) → Defines ds defined name k marks r → (x : VarId) → r ≡ Some x
      → (n : List ℕ) × (form : Form) × IsNumbered ds form n x × (has_shape k x ≡ true)
  defines_shaped [] r h x is = let e : None ≡ Some x = sym h ∙ is in absurd cc
  defines_shaped (a ∷ rest) r (inl h) x is =
      let same : h.0 ≡ x = same_Some h.0 x (sym h.2 ∙ is) in
      subst (λ y. (n : List ℕ) × (form : Form) × IsNumbered ds form n y × (has_shape k y ≡ true)) same (h.1.0, h.1.2, h.1.3.0, h.1.3.1.shaped)
  defines_shaped (a ∷ rest) r (inr h) x is = defines_shaped rest r h.1 x is
