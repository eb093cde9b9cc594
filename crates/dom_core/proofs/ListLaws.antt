-- Lists by their places: what is pushed, taken and set.
use Rattle.std.proofs.Common.{◌≡◌, ℕ, zero, suc, ◌<◌, List, [], ◌∷◌, ◌++◌, length, take, set, refl, ap, arith, ◌⊎◌, inl, inr, Some, slice_get}
use Rattle.std.proofs.lemmas.Option.{same_Some}

module _ {A : Type 0} where
  -- what stands in a list after a push stood there before, or is what was pushed
  pub get_push : (xs : List A) (x y : A) (i : ℕ) → slice_get (xs ++ x ∷ []) i ≡ Some y
      → (slice_get xs i ≡ Some y) ⊎ ((i ≡ length xs) × (x ≡ y))
  get_push [] x y zero h = inr (refl, same_Some x y h)
  get_push [] x y (suc i) h = absurd (cc)
  get_push (w ∷ ws) x y zero h = inl h
  get_push (w ∷ ws) x y (suc i) h = elim (get_push ws x y i h) [ inl old ↦ inl old | inr new ↦ inr (ap suc new.0, new.1) ]

  pub get_before_push : (xs : List A) (x y : A) (i : ℕ) → slice_get xs i ≡ Some y → slice_get (xs ++ x ∷ []) i ≡ Some y
  get_before_push [] x y i h = absurd (cc)
  get_before_push (w ∷ ws) x y zero h = h
  get_before_push (w ∷ ws) x y (suc i) h = get_before_push ws x y i h

  pub get_pushed : (xs : List A) (x : A) → slice_get (xs ++ x ∷ []) (length xs) ≡ Some x
  get_pushed [] x = refl
  get_pushed (w ∷ ws) x = get_pushed ws x

  -- what stands among the first stands there in the whole list
  pub get_take : (xs : List A) (n i : ℕ) (y : A) → slice_get (take n xs) i ≡ Some y → (i < n) × (slice_get xs i ≡ Some y)
  get_take [] zero i y h = absurd (cc)
  get_take [] (suc n) i y h = absurd (cc)
  get_take (x ∷ xs) zero i y h = absurd (cc)
  get_take (x ∷ xs) (suc n) zero y h = (omega arith, h)
  get_take (x ∷ xs) (suc n) (suc i) y h = let t = get_take xs n i y h in (omega (arith, t.0), t.1)

  pub get_within_take : (xs : List A) (n i : ℕ) (y : A) → i < n → slice_get xs i ≡ Some y → slice_get (take n xs) i ≡ Some y
  get_within_take [] n i y lt h = absurd (cc)
  get_within_take (x ∷ xs) zero i y lt h = absurd (omega arith)
  get_within_take (x ∷ xs) (suc n) zero y lt h = h
  get_within_take (x ∷ xs) (suc n) (suc i) y lt h = get_within_take xs n i y (omega arith) h

  -- one more of the first
  pub take_next : (xs : List A) (n : ℕ) (y : A) → slice_get xs n ≡ Some y → take (suc n) xs ≡ take n xs ++ y ∷ []
  take_next [] n y h = absurd (cc)
  take_next (x ∷ xs) zero y h = ap (λ (z : A). z ∷ []) (same_Some x y h)
  take_next (x ∷ xs) (suc n) y h = ap (λ (zs : List A). x ∷ zs) (take_next xs n y h)

  pub get_set : (xs : List A) (i : ℕ) (y : A) → i < length xs → slice_get (set xs i y) i ≡ Some y
  get_set [] i y lt = absurd (omega arith)
  get_set (x ∷ xs) zero y lt = refl
  get_set (x ∷ xs) (suc i) y lt = get_set xs i y (omega arith)

  pub get_set_other : (xs : List A) (i j : ℕ) (y : A) → (j ≡ i → ⊥) → slice_get (set xs i y) j ≡ slice_get xs j
  get_set_other [] i j y other = refl
  get_set_other (x ∷ xs) zero zero y other = absurd (other refl)
  get_set_other (x ∷ xs) zero (suc j) y other = refl
  get_set_other (x ∷ xs) (suc i) zero y other = refl
  get_set_other (x ∷ xs) (suc i) (suc j) y other = get_set_other xs i j y (λ e. other (ap suc e))

  pub set_reads : (xs : List A) (i : ℕ) (x y z : A) → slice_get xs i ≡ Some x → slice_get (set xs i y) i ≡ Some z → z ≡ y
  set_reads [] i x y z g h = absurd (cc)
  set_reads (w ∷ ws) zero x y z g h = cc
  set_reads (w ∷ ws) (suc i) x y z g h = set_reads ws i x y z g h

  -- a list between two others, however it is bracketed
  pub append_push : (xs : List A) (y : A) (zs : List A) → (xs ++ y ∷ []) ++ zs ≡ xs ++ y ∷ zs
  append_push [] y zs = refl
  append_push (x ∷ xs) y zs = ap (λ (ws : List A). x ∷ ws) (append_push xs y zs)
