-- The marks of lists of declarations.
use Rattle.std.proofs.Common.{◌≡◌, ◌↔◌, ℕ, ◌+◌, ◌<◌, ◌≤◌, ◌⊎◌, inl, inr, Bool, false, List, [], ◌∷◌, ◌++◌, length, get_or, slice_get, Some, IsTrue, refl, sym, ◌∙◌, ap, subst, arith}
use Rattle.std.proofs.lemmas.List.{get_or_append_left, get_or_push, length_push}
use Rattle.std.proofs.lemmas.Option.{slice_get_within, slice_get_read, same_Some}
use Rattle.fzn_syntax.specs.declared.declaration.Declaration.{Declaration}
use Rattle.fzn_syntax.specs.declared.expression.Basic.{Basic}
use Rattle.fzn_syntax.specs.declared.expression.Expression.{Expression}
use Rattle.fzn_syntax.specs.declared.expression.Expression.TheVariants as expressions
use Rattle.fzn_values.specs.Literals.{itself, through}
use Rattle.fzn_values.specs.Constants.{IsListOf, IsListAt, AreInts}
use Rattle.fzn_values.proofs.Named.{list_declared}
use Rattle.fzn_check.specs.Shapes.{HasDifferent}
use Rattle.fzn_check.specs.ListMarks.{IsMarkOf, AreMarks, mark_at}

-- a list that is written stands for itself alone
written_list : (ds : List Declaration) (bs cs : List Basic) → IsListOf ds (expressions.List bs) cs → cs ≡ bs
written_list ds bs cs (itself is same) = cc
written_list ds bs cs (through n d v named is has more) = absurd cc

-- an expression has the values of the list that it stands for
pub told_by_mark : (ds : List Declaration) (e : Expression) (k : ℕ) (mark : Bool) → IsListAt ds e k → ((bs cs : List Basic) → IsListOf ds e bs → IsListOf ds e cs → cs ≡ bs)
    → ((d : Declaration) → slice_get ds k ≡ Some d → IsMarkOf ds d mark) → IsTrue mark ↔ HasDifferent ds e
told_by_mark ds e k mark h only told =
    let r = list_declared ds e k h in
    let bs : List Basic = r.1 in
    let m = told r.0 r.2 bs r.3 in
    let into : HasDifferent ds (expressions.List bs) → HasDifferent ds e = λ g.
    (g.0, (bs, r.4, subst (λ x. AreInts ds x g.0) (written_list ds bs g.1.0 g.1.1) g.1.2), g.2) in
    let from : HasDifferent ds e → HasDifferent ds (expressions.List bs) = λ g.
    (g.0, (bs, itself refl refl, subst (λ x. AreInts ds x g.0) (only bs g.1.0 r.4 g.1.1) g.1.2), g.2) in
    (λ t. into (m.0 t), λ g. m.1 (from g))

-- ---- marks one by one

same_or_other : (i j : ℕ) → (i ≡ j) ⊎ (i ≡ j → ⊥)
same_or_other i j = grind arith

pub marks_more : (ds : List Declaration) (marks : List Bool) (i : ℕ) (c : Declaration) (x : Bool) → length marks ≡ i
    → ((k : ℕ) (d : Declaration) → k < i → slice_get ds k ≡ Some d → IsMarkOf ds d (mark_at marks k)) → slice_get ds i ≡ Some c → IsMarkOf ds c x
    → (k : ℕ) (d : Declaration) → k < i + 1 → slice_get ds k ≡ Some d → IsMarkOf ds d (mark_at (marks ++ x ∷ []) k)
marks_more ds marks i c x size before item is k d lt at =
    elim (same_or_other k i) [
      | inl same ↦ (
          let one : d ≡ c = same_Some d c (sym at ∙ subst (λ j. slice_get ds j ≡ Some c) (sym same) item) in
          let read : mark_at (marks ++ x ∷ []) k ≡ x = get_or_push marks x false k (size ∙ sym same) in
          subst (λ y. IsMarkOf ds d y) (sym read) (subst (λ y. IsMarkOf ds y x) (sym one) is))
      | inr apart ↦ (
          let below : k < i = omega (arith, lt, apart) in
          let read : mark_at (marks ++ x ∷ []) k ≡ mark_at marks k = get_or_append_left marks (x ∷ []) false k (omega (arith, below, size)) in
          subst (λ y. IsMarkOf ds d y) (sym read) (before k d below at))
    ]

pub marks_whole : (ds xs : List Declaration) (marks : List Bool) (i : ℕ) → xs ≡ ds → length xs ≤ i
    → ((k : ℕ) (d : Declaration) → k < i → slice_get ds k ≡ Some d → IsMarkOf ds d (mark_at marks k)) → AreMarks ds marks
marks_whole ds xs marks i same whole are k d at = are k d (omega (arith, whole, ap length same, slice_get_within ds k d at)) at

pub marks_size : (marks : List Bool) (x : Bool) (i : ℕ) → length marks ≡ i → length (marks ++ x ∷ []) ≡ i + 1
marks_size marks x i size = omega (arith, size, length_push marks x)
