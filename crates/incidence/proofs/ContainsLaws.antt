-- What a list has.
use Rattle.std.proofs.Common.{◌≡◌, ◌⊎◌, ◌↔◌, inl, inr, ℕ, zero, suc, ◌<◌, ◌-◌, List, [], ◌∷◌, ◌++◌, length, take, get_or, slice_get, Some, refl, sym, ◌∙◌, ap, subst, arith}
use Rattle.std.specs.List.{Contains}
use Rattle.std.proofs.lemmas.List.Elements.{Contains-append_left, Contains-append_right, Contains-append_cases}
use Rattle.std.proofs.lemmas.List.{length_push, get_or_push}
use Rattle.std.proofs.lemmas.Option.{slice_get_read}

pub contains_none : (x : ℕ) → Contains [] x → ⊥
contains_none x h = absurd (omega (arith, h.1))

pub contains_one : (y x : ℕ) → Contains (y ∷ []) x → x ≡ y
contains_one y x h = let first : h.0 ≡ 0 = omega (arith, h.1) in sym h.2 ∙ ap (λ (i : ℕ). get_or (y ∷ []) i x) first

pub contains_it : (x : ℕ) → Contains (x ∷ []) x
contains_it x = (0, omega arith, refl)

pub contains_pushed : (xs : List ℕ) (y : ℕ) → Contains (xs ++ y ∷ []) y
contains_pushed xs y = Contains-append_right xs (y ∷ []) y (contains_it y)

pub contains_push : (xs : List ℕ) (y x : ℕ) → Contains xs x → Contains (xs ++ y ∷ []) x
contains_push xs y x h = Contains-append_left xs (y ∷ []) x h

pub push_cases : (xs : List ℕ) (y x : ℕ) → Contains (xs ++ y ∷ []) x → Contains xs x ⊎ (x ≡ y)
push_cases xs y x h = elim (Contains-append_cases xs (y ∷ []) x h) [ inl a ↦ inl a | inr b ↦ inr (contains_one y x b) ]

-- the last of a list with one more
pub last_pushed : (xs : List ℕ) (y : ℕ) → slice_get (xs ++ y ∷ []) (length (xs ++ y ∷ []) - 1) ≡ Some y
last_pushed xs y =
    let here : length (xs ++ y ∷ []) - 1 ≡ length xs = omega (arith, length_push xs y) in
    slice_get_read (xs ++ y ∷ []) (length (xs ++ y ∷ [])) (length (xs ++ y ∷ []) - 1) y refl (omega (arith, length_push xs y)) (sym (get_or_push xs y y (length (xs ++ y ∷ []) - 1) (sym here)))

-- what stands among the first so many stands at one of their places
pub taken_at : (xs : List ℕ) (n x : ℕ) → Contains (take n xs) x → (j : ℕ) × (j < n) × (slice_get xs j ≡ Some x)
taken_at xs zero x h = absurd (contains_none x h)
taken_at [] (suc n) x h = absurd (contains_none x h)
taken_at (y ∷ xs) (suc n) x (zero, lt, e) = (0, omega arith, ap Some e)
taken_at (y ∷ xs) (suc n) x (suc i, lt, e) = (let rest = taken_at xs n x (i, omega (arith, lt), e) in (suc rest.0, omega (arith, rest.1), rest.2))
