-- Which constraints are built is found by their rows, and those that are not have no kind.
use Rattle.std.proofs.Common.{◌≡◌, ◌⊎◌, inl, inr, ℕ, zero, suc, Bool, List, [], ◌∷◌, slice_get, Some, refl, sym, subst}
use Rattle.std.proofs.lemmas.Option.{same_Some}
use Rattle.any_kind.specs.declared.any.AnyKind.{AnyKind}
use Rattle.dom_definers.specs.declared.posted.Posted.{Posted}
use Rattle.fzn_forms.proofs.Single.{HasOneRow, one_entry}
use Rattle.fzn_forms.specs.Made.{IsMade}
use Rattle.fzn_forms.specs.declared.argument.Argument.{Argument}
use Rattle.fzn_limits.specs.Unlisted.{AreKnown}
use Rattle.fzn_model.specs.Posting.{ArePosted}
use Rattle.fzn_signatures.specs.Table.{Entry, IsEntryOf}
use Rattle.fzn_signatures.specs.declared.shape.Shape.{Shape}
use Rattle.fzn_signatures.specs.declared.shape.Shape.TheVariants as shapes
use Rattle.fzn_syntax.specs.declared.constraint.Constraint.{Constraint}
use Rattle.fzn_syntax.specs.declared.declaration.Declaration.{Declaration}
use Rattle.fzn_totality.specs.Totality.{IsBuilt, IsUnbuilt, HasUnbuilt, UnbuiltLaw}

built_or_not : (s : Shape) → IsBuilt s ⊎ (IsBuilt s → ⊥)
built_or_not (shapes.Linear r) = inl tt
built_or_not (shapes.LinearReified r) = inl tt
built_or_not (shapes.Compared c) = inl tt
built_or_not (shapes.ComparedReified c) = inl tt
built_or_not shapes.Negation = inl tt
built_or_not shapes.Conversion = inl tt
built_or_not shapes.Sum = inl tt
built_or_not shapes.Clause = inl tt
built_or_not shapes.ClauseReified = inl tt
built_or_not shapes.Conjunction = inl tt
built_or_not shapes.Disjunction = inl tt
built_or_not shapes.And = inl tt
built_or_not shapes.Or = inl tt
built_or_not shapes.Xor = inl tt
built_or_not shapes.Product = inr (λ h. h)
built_or_not shapes.Maximum = inr (λ h. h)
built_or_not shapes.Minimum = inr (λ h. h)
built_or_not shapes.AbsoluteValue = inr (λ h. h)
built_or_not shapes.Element = inr (λ h. h)
built_or_not shapes.Membership = inr (λ h. h)
built_or_not shapes.MembershipReified = inr (λ h. h)
built_or_not shapes.AllDifferent = inr (λ h. h)
built_or_not shapes.Count = inr (λ h. h)
built_or_not shapes.Among = inr (λ h. h)
built_or_not shapes.AtMost = inr (λ h. h)
built_or_not shapes.AtLeast = inr (λ h. h)
built_or_not shapes.Cardinality = inr (λ h. h)

-- every row of the constraint's name has a shape that is built
abbrev pub HasBuiltRow : Constraint → Type 0
HasBuiltRow c = (e : Entry) → IsEntryOf c.name.name e → IsBuilt e.shape

-- and so for each constraint
abbrev pub AreBuilt : List Constraint → Type 0
AreBuilt [] = Unit {0}
AreBuilt (c ∷ cs) = HasBuiltRow c × AreBuilt cs

-- one of the constraints isn't built, or all are
pub search : HasOneRow → (cs : List Constraint) → AreKnown cs → HasUnbuilt cs ⊎ AreBuilt cs
search one [] known = inr tt
search one (c ∷ cs) known =
    let e = known 0 c refl in
    elim (built_or_not e.0.shape) [
      | inl built ↦ elim (search one cs (λ k d at. known (suc k) d at)) [
        | inl later ↦ inl (suc later.0, later.1, later.2, later.3)
        | inr all ↦ inr ((λ f is. subst (λ (x : Entry). IsBuilt x.shape) (one_entry one c.name.name e.0 f e.1 is) built), all)
      ]
      | inr not ↦ inl (0, c, refl, (e.0, e.1, not))
    ]

-- ---- what is not built has no kind

made_is_built : (s : Shape) (args : List Argument) (k : AnyKind) → IsMade s args k → IsBuilt s
made_is_built (shapes.Linear r) args k h = tt
made_is_built (shapes.LinearReified r) args k h = tt
made_is_built (shapes.Compared c) args k h = tt
made_is_built (shapes.ComparedReified c) args k h = tt
made_is_built shapes.Negation args k h = tt
made_is_built shapes.Conversion args k h = tt
made_is_built shapes.Sum args k h = tt
made_is_built shapes.Clause args k h = tt
made_is_built shapes.ClauseReified args k h = tt
made_is_built shapes.Conjunction args k h = tt
made_is_built shapes.Disjunction args k h = tt
made_is_built shapes.And args k h = tt
made_is_built shapes.Or args k h = tt
made_is_built shapes.Xor args k h = tt
made_is_built shapes.Product args k h = absurd h
made_is_built shapes.Maximum args k h = absurd h
made_is_built shapes.Minimum args k h = absurd h
made_is_built shapes.AbsoluteValue args k h = absurd h
made_is_built shapes.Element args k h = absurd h
made_is_built shapes.Membership args k h = absurd h
made_is_built shapes.MembershipReified args k h = absurd h
made_is_built shapes.AllDifferent args k h = absurd h
made_is_built shapes.Count args k h = absurd h
made_is_built shapes.Among args k h = absurd h
made_is_built shapes.AtMost args k h = absurd h
made_is_built shapes.AtLeast args k h = absurd h
made_is_built shapes.Cardinality args k h = absurd h

unbuilt_none : HasOneRow → (ds : List Declaration) (cs : List Constraint) (defined : List Bool) (ps : List Posted) (k : ℕ) (c : Constraint) → slice_get cs k ≡ Some c → IsUnbuilt c → ArePosted ds defined cs ps → ⊥
unbuilt_none one ds [] defined ps k c at not h = absurd cc
unbuilt_none one ds (d ∷ cs) defined [] k c at not h = h
unbuilt_none one ds (d ∷ cs) defined (p ∷ ps) zero c at (e, is, not) h =
    let kind = h.0.is in
    let named : IsEntryOf d.name.name e = subst (λ (x : Constraint). IsEntryOf x.name.name e) (sym (same_Some d c at)) is in
    not (subst (λ (x : Entry). IsBuilt x.shape) (one_entry one d.name.name kind.entry e kind.is_entry named) (made_is_built kind.entry.shape kind.arguments h.0.kind kind.made))
unbuilt_none one ds (d ∷ cs) defined (p ∷ ps) (suc k) c at not h = unbuilt_none one ds cs _ ps k c at not h.1

pub has_no_draft : HasOneRow → UnbuiltLaw
has_no_draft one t h d put = unbuilt_none one t.declarations t.constraints _ put.written h.0 h.1 h.2 h.3 put.posted
