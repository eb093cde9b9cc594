-- The first number that is found, of things taken one after the other.
use Rattle.std.proofs.Common.{◌≡◌, ℕ, zero, suc, ◌+◌, ◌<◌, ◌≤◌, Bool, List, [], ◌∷◌, ◌++◌, length, take, get_or, slice_get, Option, None, Some, refl, sym, ◌∙◌, ap, subst, arith, inl, inr}
use Rattle.std.specs.Prelude.{nat_lt}
use Rattle.std.specs.List.{find, flat_map}
use Rattle.std.specs.Option.{option_or}
use Rattle.std.proofs.lemmas.Bool.{cases_Bool}
use Rattle.std.proofs.lemmas.Bool.Decides.{nat_tests}
use Rattle.std.proofs.lemmas.Option.{same_Some}
use Rattle.std.proofs.lemmas.List.{append-nil, take_more}
use Rattle.std.proofs.lemmas.List.Concat.{flat_map-append}
use Rattle.std.proofs.lemmas.List.Folds.{find-append}

neither : {X : Type 0} (a b : Option X) → option_or a b ≡ None → (a ≡ None) × (b ≡ None)
neither None b e = (refl, e)
neither (Some x) b e = absurd cc

-- what is found in the front is found first
pub found_left : (p : ℕ → Bool) (xs ys : List ℕ) (n : ℕ) → find p xs ≡ Some n → find p (xs ++ ys) ≡ Some n
found_left p xs ys n found = find-append p xs ys ∙ rw found refl

-- where none is found in the front, the rest is left
pub found_right : (p : ℕ → Bool) (xs ys : List ℕ) → find p xs ≡ None → find p (xs ++ ys) ≡ find p ys
found_right p xs ys none = find-append p xs ys ∙ rw none refl

-- where none is found in both, none is found in either
pub both_none : (p : ℕ → Bool) (xs ys : List ℕ) → find p (xs ++ ys) ≡ None → (find p xs ≡ None) × (find p ys ≡ None)
both_none p xs ys none = neither (find p xs) (find p ys) (sym (find-append p xs ys) ∙ none)

-- nor in any of the things one after the other
pub none_at : {X : Type 0} (p : ℕ → Bool) (f : X → List ℕ) (xs : List X) (k : ℕ) (x : X) → slice_get xs k ≡ Some x → find p (flat_map f xs) ≡ None → find p (f x) ≡ None
none_at p f [] k x at none = absurd cc
none_at p f (y ∷ ys) zero x at none = subst (λ z. find p (f z) ≡ None) (same_Some y x at) (both_none p (f y) (flat_map f ys) none).0
none_at p f (y ∷ ys) (suc k) x at none = none_at p f ys k x at (both_none p (f y) (flat_map f ys) none).1

-- a number that is not found above a limit
pub not_above : (l n : ℕ) → find (λ m. nat_lt l m) (n ∷ []) ≡ None → n ≤ l
not_above l n none =
    elim (cases_Bool (nat_lt l n)) [
      | inl e ↦ absurd (let found : find (λ m. nat_lt l m) (n ∷ []) ≡ Some n = rw e refl in cc)
      | inr e ↦ grind (arith, nat_tests)
    ]

module _ {X : Type 0} (p : ℕ → Bool) (f : X → List ℕ) where
  -- none is found in one thing more
  pub none_more : (xs : List X) (i : ℕ) (d x : X) → i < length xs → x ≡ get_or xs i d → find p (flat_map f (take i xs)) ≡ None → find p (f x) ≡ None
      → find p (flat_map f (take (i + 1) xs)) ≡ None
  none_more xs i d x lt is before here =
      let longer : take (i + 1) xs ≡ take i xs ++ x ∷ [] = take_more xs i d lt ∙ ap (λ y. take i xs ++ y ∷ []) (sym is) in
      let parts : flat_map f (take (i + 1) xs) ≡ flat_map f (take i xs) ++ f x =
      ap (flat_map f) longer ∙ flat_map-append f (take i xs) (x ∷ []) ∙ ap (λ ns. flat_map f (take i xs) ++ ns) (append-nil (f x)) in
      ap (find p) parts ∙ find-append p (flat_map f (take i xs)) (f x) ∙ rw (before, here) refl

  -- what is found in one thing, and in none before it, is found first
  pub found_first : (xs : List X) (i : ℕ) (d x : X) (n : ℕ) → i < length xs → x ≡ get_or xs i d → find p (flat_map f (take i xs)) ≡ None → find p (f x) ≡ Some n
      → find p (flat_map f xs) ≡ Some n
  found_first [] i d x n lt is before here = absurd (omega arith)
  found_first (y ∷ ys) zero d x n lt is before here =
      let first : find p (f y) ≡ Some n = ap (λ z. find p (f z)) (sym is) ∙ here in
      find-append p (f y) (flat_map f ys) ∙ rw first refl
  found_first (y ∷ ys) (suc i) d x n lt is before here =
      let both = neither (find p (f y)) (find p (flat_map f (take i ys))) (sym (find-append p (f y) (flat_map f (take i ys))) ∙ before) in
      find-append p (f y) (flat_map f ys) ∙ rw both.0 (found_first ys i d x n (omega arith) is both.1 here)
