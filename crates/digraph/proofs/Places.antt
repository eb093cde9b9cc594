-- Places in lists.
use Rattle.std.proofs.Common.{◌≡◌, ◌⊎◌, inl, inr, ℕ, zero, suc, ◌<◌, ◌≤◌, List, [], ◌∷◌, ◌++◌, length, take, Some, slice_get, refl, ap, arith}

pub one_there : {X : Type 0} (xs : List X) (i : ℕ) (x y : X) → slice_get xs i ≡ Some x → slice_get xs i ≡ Some y → x ≡ y
one_there xs i x y e f = cc

pub there_left : {X : Type 0} (xs ys : List X) (i : ℕ) (x : X) → slice_get xs i ≡ Some x → slice_get (xs ++ ys) i ≡ Some x
there_left [] ys i x e = absurd cc
there_left (z ∷ xs) ys zero x e = e
there_left (z ∷ xs) ys (suc i) x e = there_left xs ys i x e

pub there_last : {X : Type 0} (xs : List X) (x : X) → slice_get (xs ++ x ∷ []) (length xs) ≡ Some x
there_last [] x = refl
there_last (z ∷ xs) x = there_last xs x

-- what stands in a list with one more stands in the list, or is the one behind it
pub there_cases : {X : Type 0} (xs : List X) (y x : X) (i : ℕ) → slice_get (xs ++ y ∷ []) i ≡ Some x → (slice_get xs i ≡ Some x) ⊎ ((i ≡ length xs) × (y ≡ x))
there_cases [] y x zero e = inr (refl, cc)
there_cases [] y x (suc i) e = absurd cc
there_cases (z ∷ xs) y x zero e = inl e
there_cases (z ∷ xs) y x (suc i) e = elim (there_cases xs y x i e) [ inl h ↦ inl h | inr h ↦ inr (ap suc h.0, h.1) ]

-- nothing stands at a place past the end alone
pub past_none : {X : Type 0} (xs : List X) (i : ℕ) → ((x : X) → slice_get xs i ≡ Some x → ⊥) → length xs ≤ i
past_none [] i none = omega arith
past_none (x ∷ xs) zero none = absurd (none x refl)
past_none (x ∷ xs) (suc i) none = omega (arith, past_none xs i none)

-- what stands among the first so many stands in the list, before them
pub taken : {X : Type 0} (xs : List X) (n i : ℕ) (x : X) → slice_get (take n xs) i ≡ Some x → (j : ℕ) × (j < n) × (slice_get xs j ≡ Some x)
taken [] zero i x e = absurd cc
taken [] (suc n) i x e = absurd cc
taken (y ∷ xs) zero i x e = absurd cc
taken (y ∷ xs) (suc n) zero x e = (zero, omega arith, e)
taken (y ∷ xs) (suc n) (suc i) x e = (let rest = taken xs n i x e in (suc rest.0, omega (arith, rest.1), rest.2))
