-- What each occurrence changes in what is known of the text so far.
use Rattle.std.proofs.Common.{◌≡◌, ℕ, suc, ◌+◌, ◌<◌, ◌≤◌, ◌↔◌, Bool, true, false, List, [], ◌∷◌, ◌++◌, length, take, Option, None, Some, Ok, slice_get, refl, sym, ◌∙◌, ap, subst, arith, inl, inr, add-one}
use Rattle.std.proofs.lemmas.Option.{same_Some}
use Rattle.std.proofs.lemmas.List.{append-nil, take_all}
use Rattle.fzn_symbols.specs.declared.occurrence.Role.{Role}
use Rattle.fzn_symbols.specs.declared.occurrence.Role.TheVariants.{Declares, Uses}
use Rattle.fzn_symbols.specs.Counted.{HasNoDouble, IsFirstDouble, IsCounted, fine_of}
use Rattle.fzn_symbols.specs.Listed.{IsListed, IsUnlisted}
use Rattle.fzn_symbols.specs.Noted.{IsNoted, earlier_of}
use Rattle.fzn_symbols.specs.Numbered.{Mark, declared_by, declared_names, IsTwice}
use Rattle.fzn_symbols.proofs.Lists.{declared_next, listed_left, listed_last, listed_cases}

pub counted_none : (os : List Mark) → IsCounted os 0 [] None
counted_none os = record {
  same = λ n. (λ h. h, λ h. h);
  first = (refl, λ j at lt h. absurd (omega arith));
}

same_more : (r : Role) (so_far names new : List (List ℕ)) (n : List ℕ) (again : Bool) → ((m : List ℕ) → IsListed names m ↔ IsListed so_far m)
    → IsNoted r names n new (Ok again) → (m : List ℕ) → IsListed new m ↔ IsListed (so_far ++ declared_by r n) m
same_more Uses so_far names new n again same noted m = rw (noted.1, append-nil so_far) (same m)
same_more Declares so_far names new n true same noted m = rw noted.1 (
  λ h. (let k = (same m).0 h in (k.0, listed_left so_far (n ∷ []) m k.0 k.1)),
  λ h. elim (listed_cases so_far n m h.0 h.1) [
    | inl k ↦ (same m).1 k
    | inr is ↦ subst (λ (x : List ℕ). IsListed names x) is noted.0
  ],
)
same_more Declares so_far names new n false same noted m = rw noted.1 (
  λ h. elim (listed_cases names n m h.0 h.1) [
    | inl k ↦ (let l = (same m).0 k in (l.0, listed_left so_far (n ∷ []) m l.0 l.1))
    | inr is ↦ (length so_far, subst (λ (x : List ℕ). slice_get (so_far ++ n ∷ []) (length so_far) ≡ Some x) is (listed_last so_far n))
  ],
  λ h. elim (listed_cases so_far n m h.0 h.1) [
    | inl k ↦ (let l = (same m).1 k in (l.0, listed_left names (n ∷ []) m l.0 l.1))
    | inr is ↦ (length names, subst (λ (x : List ℕ). slice_get (names ++ n ∷ []) (length names) ≡ Some x) is (listed_last names n))
  ],
)

no_double_more : (os : List Mark) (k : ℕ) → HasNoDouble os k → ((at : ℕ) → IsTwice os k at → ⊥) → HasNoDouble os (suc k)
no_double_more os k before here j at lt h =
    let not_before : j < k → ⊥ = λ l. before j at l h in
    let not_here : j ≡ k → ⊥ = λ e. here at (subst (λ (i : ℕ). IsTwice os i at) e h) in
    absurd (omega (arith, lt, not_before, not_here))

module _ (os : List Mark) (k : ℕ) (o : Mark) (stands : slice_get os k ≡ Some o) (names new : List (List ℕ)) (so_far : (m : List ℕ) → IsListed names m ↔ IsListed (declared_names (take k os)) m) where
  no_double_used : o.role ≡ Uses → (at : ℕ) → IsTwice os k at → ⊥
  no_double_used is at h =
      let other : h.0 ≡ o = same_Some h.0 o (sym h.1 ∙ stands) in
      let declares : o.role ≡ Declares = subst (λ (p : Mark). p.role ≡ Declares) other h.2 in
      cc

  no_double_new : IsUnlisted names o.name → (at : ℕ) → IsTwice os k at → ⊥
  no_double_new unlisted at h =
      let other : h.0 ≡ o = same_Some h.0 o (sym h.1 ∙ stands) in
      unlisted ((so_far o.name).1 (subst (λ (p : Mark). IsListed (declared_names (take k os)) p.name) other h.3))

  first_more : (r : Role) (again : Bool) (double : Option ℕ) → o.role ≡ r → IsNoted r names o.name new (Ok again) → IsFirstDouble os k names double → IsFirstDouble os (suc k) new (earlier_of double again k)
  first_more r again (Some d) is noted first = (omega (arith, first.0), first.1, first.2, first.3)
  first_more Uses true None is noted first = absurd (let e = noted.0 in cc)
  first_more Uses false None is noted first = (
    noted.1 ∙ first.0 ∙ sym (append-nil (declared_names (take k os))) ∙ ap (λ (r : Role). declared_names (take k os) ++ declared_by r o.name) (sym is) ∙ sym (declared_next os k o stands),
    no_double_more os k first.1 (no_double_used is),
  )
  first_more Declares true None is noted first = (omega arith, o.at, (o, stands, is, (so_far o.name).0 noted.0, refl), first.1)
  first_more Declares false None is noted first = (
    noted.1 ∙ ap (λ (ns : List (List ℕ)). ns ++ o.name ∷ []) first.0 ∙ ap (λ (r : Role). declared_names (take k os) ++ declared_by r o.name) (sym is) ∙ sym (declared_next os k o stands),
    no_double_more os k first.1 (no_double_new noted.0),
  )

pub counted_more : (os : List Mark) (k : ℕ) (o : Mark) (names new : List (List ℕ)) (double : Option ℕ) (again : Bool) → slice_get os k ≡ Some o
    → IsCounted os k names double → IsNoted o.role names o.name new (Ok again) → IsCounted os (k + 1) new (earlier_of double again k)
counted_more os k o names new double again stands counted noted =
    rw add-one
    (record {
      same = λ m. rw (declared_next os k o stands) (same_more o.role (declared_names (take k os)) names new o.name again counted.same noted m);
      first = first_more os k o stands names new counted.same o.role again double refl noted counted.first;
    })

-- ---- the whole text

pub counted_same : (os : List Mark) (names : List (List ℕ)) (double : Option ℕ) → IsCounted os (length os) names double → (n : List ℕ) → IsListed names n ↔ IsListed (declared_names os) n
counted_same os names double counted n =
    subst (λ (ps : List Mark). IsListed names n ↔ IsListed (declared_names ps) n) (take_all (length os) os (omega arith)) (counted.same n)

pub counted_fine : (os : List Mark) (names : List (List ℕ)) (double : Option ℕ) → IsFirstDouble os (length os) names double → HasNoDouble os (fine_of double (length os))
counted_fine os names None first = first.1
counted_fine os names (Some d) first = first.3

pub fine_within : (os : List Mark) (names : List (List ℕ)) (double : Option ℕ) → IsFirstDouble os (length os) names double → fine_of double (length os) ≤ length os
fine_within os names None first = omega arith
fine_within os names (Some d) first = omega (arith, first.0)
