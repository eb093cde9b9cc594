-- The answer for a whole text, once its declared names are added.
use Rattle.std.proofs.Common.{◌≡◌, ℕ, ◌+◌, ◌<◌, ◌↔◌, List, length, take, get_or, Option, None, Some, Ok, slice_get, refl, sym, ◌∙◌, ap, subst, arith}
use Rattle.std.proofs.lemmas.List.{take_all}
use Rattle.std.proofs.lemmas.Option.{get_or_from_slice_get, same_Some}
use Rattle.fzn_symbols.specs.declared.error.NameError.TheVariants.{NameTwice, UnknownName}
use Rattle.fzn_symbols.specs.declared.occurrence.Role.TheVariants.{Uses}
use Rattle.fzn_symbols.specs.Counted.{HasNoDouble, IsCounted, IsFirstDouble, IsFirstUnknown, IsNowhere, fine_of}
use Rattle.fzn_symbols.specs.Listed.{IsListed, IsUnlisted}
use Rattle.fzn_symbols.specs.Numbered.{Mark, declared_names, IsTwice, IsUnknown, IsFirstFault, IsNumbered}
use Rattle.fzn_symbols.proofs.Counting.{counted_same, counted_fine}
use Rattle.fzn_symbols.proofs.Faults.{unknown_first, twice_first, no_fault}

-- an unknown occurrence behind known ones
pub unknown_here : (names : List (List ℕ)) (os : List Mark) (k : ℕ) (o : Mark) → slice_get os k ≡ Some o → ((j at : ℕ) → j < k → IsUnknown names os j at → ⊥)
    → ((o.role ≡ Uses) × IsUnlisted names o.name) → IsFirstUnknown names os o.at
unknown_here names os k o stands before here = (k, (o, stands, here.0, here.1, refl), before)

-- one occurrence more that isn't unknown
pub known_more : (names : List (List ℕ)) (os : List Mark) (k : ℕ) (o : Mark) → slice_get os k ≡ Some o → ((j at : ℕ) → j < k → IsUnknown names os j at → ⊥)
    → ((o.role ≡ Uses) × IsUnlisted names o.name → ⊥) → (j at : ℕ) → j < k + 1 → IsUnknown names os j at → ⊥
known_more names os k o stands before here j at lt h =
    let not_before : j < k → ⊥ = λ l. before j at l h in
    let not_here : j ≡ k → ⊥ = λ e. (
    let other : h.0 ≡ o = same_Some h.0 o (sym (subst (λ (i : ℕ). slice_get os i ≡ Some h.0) e h.1) ∙ stands) in
    here (sym (ap (λ (p : Mark). p.role) other) ∙ h.2, subst (λ (p : Mark). IsUnlisted names p.name) other h.3)) in
    absurd (omega (arith, lt, not_before, not_here))

twice_here : (os : List Mark) (k at : ℕ) (d : Mark) → IsTwice os k at → IsTwice os k (get_or os k d).at
twice_here os k at d h = (h.0, h.1, h.2, h.3, ap (λ (p : Mark). p.at) (sym (get_or_from_slice_get os k h.0 d h.1)))

module _ (os : List Mark) (names : List (List ℕ)) (double : Option ℕ) (counted : IsCounted os (length os) names double) (fine : ℕ) (fine_is : fine ≡ fine_of double (length os)) where
  same : (n : List ℕ) → IsListed names n ↔ IsListed (declared_names os) n
  same = counted_same os names double counted

  none : HasNoDouble os fine
  none = subst (HasNoDouble os) (sym fine_is) (counted_fine os names double counted.first)

  pub first_is_unknown : (at : ℕ) → IsFirstUnknown names (take fine os) at → IsFirstFault os (UnknownName at)
  first_is_unknown = unknown_first os names fine same none

  pub first_is_double : (place : ℕ) (d : Mark) → double ≡ Some place → IsNowhere names (take fine os) → IsFirstFault os (NameTwice (get_or os place d).at)
  first_is_double place d is nowhere =
      let first : IsFirstDouble os (length os) names (Some place) = subst (IsFirstDouble os (length os) names) is counted.first in
      let here : place ≡ fine = sym (fine_is ∙ ap (λ (o : Option ℕ). fine_of o (length os)) is) in
      let twice = twice_here os place first.1 d first.2 in
      twice_first os names fine same none nowhere (get_or os place d).at (subst (λ (k : ℕ). IsTwice os k (get_or os place d).at) here twice)

  pub nothing_wrong : double ≡ None → IsNowhere names (take fine os) → IsNumbered os (Ok names)
  nothing_wrong is nowhere =
      let first : IsFirstDouble os (length os) names None = subst (IsFirstDouble os (length os) names) is counted.first in
      let all : fine ≡ length os = fine_is ∙ ap (λ (o : Option ℕ). fine_of o (length os)) is in
      (first.0 ∙ ap declared_names (take_all (length os) os (omega arith)), no_fault os names fine same none (omega (arith, all)) nowhere)
