-- Laws of a list whose keys rise, by the order of their bytes.
use Rattle.std.proofs.Common.{◌≡◌, ℕ, zero, suc, ◌+◌, ◌<◌, ◌≤◌, Bool, true, false, ◌&&◌, List, [], ◌∷◌, map, get_or, Some, Err, slice_get, refl, sym, ap, subst, arith}
use Rattle.std.specs.Cmp.Lexicographic.{slice_cmp}
use Rattle.std.specs.List.Sorted.{IsBinarySearchResult, IsSortedBy}
use Rattle.std.specs.Ordering.{nat_cmp, is_lt, ordering_reverse}
use Rattle.std.specs.declared.cmp.Ordering.{Ordering}
use Rattle.std.specs.declared.cmp.Ordering.TheVariants.{Less, Equal, Greater}
use Rattle.std.proofs.lemmas.Cmp.{nat_list_cmp_total, tied_itself}
use Rattle.std.proofs.lemmas.List.Sorted.{searchable_from_sorted}
use Rattle.std.proofs.lemmas.Option.{slice_get-get_or, slice_get_within, get_or_from_slice_get}

is_less : (o : Ordering) → is_lt o ≡ true → o ≡ Less
is_less Less e = refl
is_less Equal e = absurd cc
is_less Greater e = absurd cc

never_back : (o p : Ordering) → o ≡ Less → p ≡ ordering_reverse o → is_lt p ≡ false
never_back Less p e f = rw f refl
never_back Equal p e f = absurd cc
never_back Greater p e f = absurd cc

pub both : (a b : Bool) → (a && b) ≡ true → (a ≡ true) × (b ≡ true)
both true b e = (refl, e)
both false b e = absurd cc

-- an element of the images is that of an element
pub image_at : {X Y : Type 0} (f : X → Y) (xs : List X) (k : ℕ) (y : Y) → slice_get (map f xs) k ≡ Some y → (x : X) × (slice_get xs k ≡ Some x) × (f x ≡ y)
image_at f [] k y e = absurd cc
image_at f (x ∷ xs) zero y e = (x, refl, cc)
image_at f (x ∷ xs) (suc k) y e = image_at f xs k y e

module _ {X : Type 0} (key : X → List ℕ) where
  abbrev pub compared : X → X → Ordering
  compared x y = slice_cmp nat_cmp (key x) (key y)

  -- each key is below the next
  abbrev pub rises : List X → Bool
  rises [] = true
  rises (x ∷ []) = true
  rises (x ∷ y ∷ ys) = is_lt (compared x y) && rises (y ∷ ys)

  rest_rises : (x : X) (xs : List X) → rises (x ∷ xs) ≡ true → rises xs ≡ true
  rest_rises x [] r = refl
  rest_rises x (y ∷ ys) r = (both (is_lt (compared x y)) (rises (y ∷ ys)) r).1

  -- the first is below each later one
  first_below : (x : X) (xs : List X) (k : ℕ) (y : X) → rises (x ∷ xs) ≡ true → slice_get xs k ≡ Some y → compared x y ≡ Less
  first_below x [] k y r e = absurd cc
  first_below x (z ∷ zs) zero y r e =
      let z_is : z ≡ y = cc in
      subst (λ (w : X). compared x w ≡ Less) z_is (is_less (compared x z) (both (is_lt (compared x z)) (rises (z ∷ zs)) r).0)
  first_below x (z ∷ zs) (suc k) y r e =
      let parts = both (is_lt (compared x z)) (rises (z ∷ zs)) r in
      nat_list_cmp_total.trans (key x) (key z) (key y) (is_less (compared x z) parts.0) (first_below z zs k y parts.1 e)

  -- an earlier one is below a later one
  pub earlier_below : (xs : List X) (i j : ℕ) (x y : X) → rises xs ≡ true → i < j → slice_get xs i ≡ Some x → slice_get xs j ≡ Some y → compared x y ≡ Less
  earlier_below [] i j x y r lt e f = absurd cc
  earlier_below (z ∷ zs) i zero x y r lt e f = absurd (omega arith)
  earlier_below (z ∷ zs) zero (suc j) x y r lt e f =
      let z_is : z ≡ x = cc in
      subst (λ (w : X). compared w y ≡ Less) z_is (first_below z zs j y r f)
  earlier_below (z ∷ zs) (suc i) (suc j) x y r lt e f = earlier_below zs i j x y (rest_rises z zs r) (omega arith) e f

  not_alike : (xs : List X) (i j : ℕ) (x y : X) → rises xs ≡ true → i < j → slice_get xs i ≡ Some x → slice_get xs j ≡ Some y → key x ≡ key y → ⊥
  not_alike xs i j x y r lt e f same =
      let less = earlier_below xs i j x y r lt e f in
      let tied : compared x y ≡ Equal = rw same (tied_itself nat_list_cmp_total (key y)) in
      cc

  -- a key stands at one place alone
  pub one_place : (xs : List X) (i j : ℕ) (x y : X) → rises xs ≡ true → slice_get xs i ≡ Some x → slice_get xs j ≡ Some y → key x ≡ key y → i ≡ j
  one_place xs i j x y r e f same =
      let before : i < j → ⊥ = λ lt. not_alike xs i j x y r lt e f same in
      let after : j < i → ⊥ = λ lt. not_alike xs j i y x r lt f e (sym same) in
      omega (arith, before, after)

  sorted : (xs : List X) → rises xs ≡ true → IsSortedBy (λ x y. is_lt (slice_cmp nat_cmp (key x) (key y))) xs
  sorted xs r k d low lt =
      let earlier = get_or xs k d in
      let later = get_or xs (k + 1) d in
      let less = earlier_below xs k (k + 1) earlier later r (omega arith) (slice_get-get_or xs k d (omega arith)) (slice_get-get_or xs (k + 1) d lt) in
      never_back (compared earlier later) (compared later earlier) less (nat_list_cmp_total.antisymm (key later) (key earlier))

  -- where a search by halves ends between the lesser and the greater, no key is the one that was sought
  pub absent : (xs : List X) (n : List ℕ) (at k : ℕ) (x : X) → rises xs ≡ true → IsBinarySearchResult (λ y. slice_cmp nat_cmp (key y) n) xs (Err at) → slice_get xs k ≡ Some x → key x ≡ n → ⊥
  absent xs n at k x r ended e same =
      let parted = ended (searchable_from_sorted nat_list_cmp_total key xs n (sorted xs r)) in
      let within = slice_get_within xs k x e in
      let x_is : get_or xs k x ≡ x = get_or_from_slice_get xs k x x e in
      let tied : slice_cmp nat_cmp (key (get_or xs k x)) n ≡ Equal = rw (x_is, same) (tied_itself nat_list_cmp_total n) in
      let not_before : k < at → ⊥ = λ lt. (let less = parted.0 k x (omega arith) lt in cc) in
      let not_behind : at ≤ k → ⊥ = λ le. (let more = parted.1 k x le within in cc) in
      absurd (omega (arith, not_before, not_behind))

-- the keys of the images
pub rises_before : {X Y : Type 0} (key : X → List ℕ) (f : Y → X) (ys : List Y) → rises (λ y. key (f y)) ys ≡ rises key (map f ys)
rises_before key f [] = refl
rises_before key f (y ∷ []) = refl
rises_before key f (y ∷ z ∷ zs) = ap (λ (b : Bool). is_lt (slice_cmp nat_cmp (key (f y)) (key (f z))) && b) (rises_before key f (z ∷ zs))
