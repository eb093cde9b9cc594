-- Products keep or turn the order.
use Rattle.std.proofs.Common.{◌≡◌, ℕ, zero, suc, ℤ, pos, negsuc, ◌+ℤ◌, ◌-ℤ◌, ◌*ℤ◌, ◌<ℤ◌, ◌≤ℤ◌, arith, Bool, true, false, refl, sym, subst, int_lt, int_le, if◌then◌else◌, ◌⊎◌, inl, inr, FitsSigned}
use Rattle.std.proofs.Math.IntN.{suc_ℤ-*ℤ, pred_ℤ-*ℤ, zero-*ℤ, *ℤ_comm}
use Rattle.std.proofs.lemmas.Int.{ints, clamps}
use Rattle.std.specs.Int.{int_max, int_min, w128}
use Rattle.dom_core.specs.Ends.{Ends, IsOrdered, lies_in, scaled_ends, hull_ends, ProductsFit, IsProductOf, IsProductHull}
use Rattle.dom_core.proofs.TestLaws.{le_true, true_le, and_first, and_second, and_both, true_or_false}

pub lt_true : (a b : ℤ) → int_lt a b ≡ true → a <ℤ b
lt_true a b h = grind (arith, ints)

pub lt_false : (a b : ℤ) → int_lt a b ≡ false → b ≤ℤ a
lt_false a b h = grind (arith, ints)

-- one more multiple
pub pos_suc-times : (n : ℕ) (a : ℤ) → (pos (suc n) *ℤ a) ≡ ((pos n *ℤ a) +ℤ a)
pos_suc-times n a = suc_ℤ-*ℤ (pos n) a

pub neg_one-times : (a : ℤ) → (negsuc zero *ℤ a) ≡ (pos 0 -ℤ a)
neg_one-times a =
    let e : (negsuc zero *ℤ a) ≡ ((pos 0 *ℤ a) -ℤ a) = pred_ℤ-*ℤ (pos 0) a in
    let z : (pos 0 *ℤ a) ≡ pos 0 = zero-*ℤ a in
    omega (arith, ints)

pub neg_suc-times : (n : ℕ) (a : ℤ) → (negsuc (suc n) *ℤ a) ≡ ((negsuc n *ℤ a) -ℤ a)
neg_suc-times n a = pred_ℤ-*ℤ (negsuc n) a

pub pos_times : (n : ℕ) (a b : ℤ) → a ≤ℤ b → (pos n *ℤ a) ≤ℤ (pos n *ℤ b)
pos_times zero a b h =
    let e : (pos 0 *ℤ a) ≡ pos 0 = zero-*ℤ a in
    let f : (pos 0 *ℤ b) ≡ pos 0 = zero-*ℤ b in
    omega (arith, ints)
pos_times (suc n) a b h =
    let e : (pos (suc n) *ℤ a) ≡ ((pos n *ℤ a) +ℤ a) = pos_suc-times n a in
    let f : (pos (suc n) *ℤ b) ≡ ((pos n *ℤ b) +ℤ b) = pos_suc-times n b in
    let g : (pos n *ℤ a) ≤ℤ (pos n *ℤ b) = pos_times n a b h in
    omega (arith, ints)

pub neg_times : (n : ℕ) (a b : ℤ) → a ≤ℤ b → (negsuc n *ℤ b) ≤ℤ (negsuc n *ℤ a)
neg_times zero a b h =
    let e : (negsuc zero *ℤ a) ≡ (pos 0 -ℤ a) = neg_one-times a in
    let f : (negsuc zero *ℤ b) ≡ (pos 0 -ℤ b) = neg_one-times b in
    omega (arith, ints)
neg_times (suc n) a b h =
    let e : (negsuc (suc n) *ℤ a) ≡ ((negsuc n *ℤ a) -ℤ a) = neg_suc-times n a in
    let f : (negsuc (suc n) *ℤ b) ≡ ((negsuc n *ℤ b) -ℤ b) = neg_suc-times n b in
    let g : (negsuc n *ℤ b) ≤ℤ (negsuc n *ℤ a) = neg_times n a b h in
    omega (arith, ints)

-- a factor that isn't negative keeps the order
pub times_up : (k a b : ℤ) → pos 0 ≤ℤ k → a ≤ℤ b → (k *ℤ a) ≤ℤ (k *ℤ b)
times_up (pos n) a b s h = pos_times n a b h
times_up (negsuc n) a b s h = absurd (omega (arith, ints))

-- a negative factor turns the order
pub times_down : (k a b : ℤ) → k <ℤ pos 0 → a ≤ℤ b → (k *ℤ b) ≤ℤ (k *ℤ a)
times_down (pos n) a b s h = absurd (omega (arith, ints))
times_down (negsuc n) a b s h = neg_times n a b h

-- ---- intervals

-- multiples stand in order
pub scaled_ordered : (k : ℤ) (e : Ends) → e.lo ≤ℤ e.hi → (scaled_ends k e).lo ≤ℤ (scaled_ends k e).hi
scaled_ordered k e h =
    let step : (b : Bool) → int_lt k (pos 0) ≡ b → (if b then k *ℤ e.hi else k *ℤ e.lo) ≤ℤ (if b then k *ℤ e.lo else k *ℤ e.hi) =
    λ b. elim b as (λ b. int_lt k (pos 0) ≡ b → (if b then k *ℤ e.hi else k *ℤ e.lo) ≤ℤ (if b then k *ℤ e.lo else k *ℤ e.hi))
    [ true ↦ λ t. times_down k e.lo e.hi (lt_true k (pos 0) t) h | false ↦ λ t. times_up k e.lo e.hi (lt_false k (pos 0) t) h ] in
    step (int_lt k (pos 0)) refl

-- a multiple of an integer of the interval lies in the interval of multiples
pub scaled_has : (k : ℤ) (e : Ends) (x : ℤ) → e.lo ≤ℤ x → x ≤ℤ e.hi
    → ((scaled_ends k e).lo ≤ℤ (k *ℤ x)) × ((k *ℤ x) ≤ℤ (scaled_ends k e).hi)
scaled_has k e x low high =
    let step : (b : Bool) → int_lt k (pos 0) ≡ b → ((if b then k *ℤ e.hi else k *ℤ e.lo) ≤ℤ (k *ℤ x)) × ((k *ℤ x) ≤ℤ (if b then k *ℤ e.lo else k *ℤ e.hi)) =
    λ b. elim b as (λ b. int_lt k (pos 0) ≡ b → ((if b then k *ℤ e.hi else k *ℤ e.lo) ≤ℤ (k *ℤ x)) × ((k *ℤ x) ≤ℤ (if b then k *ℤ e.lo else k *ℤ e.hi))) [
      | true ↦ λ t. (times_down k x e.hi (lt_true k (pos 0) t) high, times_down k e.lo x (lt_true k (pos 0) t) low)
      | false ↦ λ t. (times_up k e.lo x (lt_false k (pos 0) t) low, times_up k x e.hi (lt_false k (pos 0) t) high)
    ] in
    step (int_lt k (pos 0)) refl

-- multiples of a smaller interval lie within
pub scaled_part : (k : ℤ) (small large : Ends) → large.lo ≤ℤ small.lo → small.lo ≤ℤ small.hi → small.hi ≤ℤ large.hi
    → ((scaled_ends k large).lo ≤ℤ (scaled_ends k small).lo) × ((scaled_ends k small).hi ≤ℤ (scaled_ends k large).hi)
scaled_part k small large low order high =
    let step : (b : Bool) → int_lt k (pos 0) ≡ b
    → ((if b then k *ℤ large.hi else k *ℤ large.lo) ≤ℤ (if b then k *ℤ small.hi else k *ℤ small.lo))
    × ((if b then k *ℤ small.lo else k *ℤ small.hi) ≤ℤ (if b then k *ℤ large.lo else k *ℤ large.hi)) =
    λ b. elim b as (λ b. int_lt k (pos 0) ≡ b
    → ((if b then k *ℤ large.hi else k *ℤ large.lo) ≤ℤ (if b then k *ℤ small.hi else k *ℤ small.lo))
    × ((if b then k *ℤ small.lo else k *ℤ small.hi) ≤ℤ (if b then k *ℤ large.lo else k *ℤ large.hi))) [
      | true ↦ λ t. (times_down k small.hi large.hi (lt_true k (pos 0) t) high, times_down k large.lo small.lo (lt_true k (pos 0) t) low)
      | false ↦ λ t. (times_up k large.lo small.lo (lt_false k (pos 0) t) low, times_up k small.hi large.hi (lt_false k (pos 0) t) high)
    ] in
    step (int_lt k (pos 0)) refl

-- ---- products of two intervals

-- an end of the multiples is a multiple of an end
pub scaled_low : (k : ℤ) (e : Ends) → ((scaled_ends k e).lo ≡ (k *ℤ e.lo)) ⊎ ((scaled_ends k e).lo ≡ (k *ℤ e.hi))
scaled_low k e =
    let step : (b : Bool) → ((if b then k *ℤ e.hi else k *ℤ e.lo) ≡ (k *ℤ e.lo)) ⊎ ((if b then k *ℤ e.hi else k *ℤ e.lo) ≡ (k *ℤ e.hi)) =
    λ b. elim b as (λ b. ((if b then k *ℤ e.hi else k *ℤ e.lo) ≡ (k *ℤ e.lo)) ⊎ ((if b then k *ℤ e.hi else k *ℤ e.lo) ≡ (k *ℤ e.hi)))
    [ true ↦ inr refl | false ↦ inl refl ] in
    step (int_lt k (pos 0))

pub scaled_high : (k : ℤ) (e : Ends) → ((scaled_ends k e).hi ≡ (k *ℤ e.lo)) ⊎ ((scaled_ends k e).hi ≡ (k *ℤ e.hi))
scaled_high k e =
    let step : (b : Bool) → ((if b then k *ℤ e.lo else k *ℤ e.hi) ≡ (k *ℤ e.lo)) ⊎ ((if b then k *ℤ e.lo else k *ℤ e.hi) ≡ (k *ℤ e.hi)) =
    λ b. elim b as (λ b. ((if b then k *ℤ e.lo else k *ℤ e.hi) ≡ (k *ℤ e.lo)) ⊎ ((if b then k *ℤ e.lo else k *ℤ e.hi) ≡ (k *ℤ e.hi)))
    [ true ↦ inl refl | false ↦ inr refl ] in
    step (int_lt k (pos 0))

pub in_low : (e : Ends) → IsOrdered e → lies_in e.lo e ≡ true
in_low e h = and_both (int_le e.lo e.lo) (int_le e.lo e.hi) (true_le e.lo e.lo (omega (arith, ints))) (true_le e.lo e.hi h)

pub in_high : (e : Ends) → IsOrdered e → lies_in e.hi e ≡ true
in_high e h = and_both (int_le e.lo e.hi) (int_le e.hi e.hi) (true_le e.lo e.hi h) (true_le e.hi e.hi (omega (arith, ints)))

-- an end of the multiples by an integer of the first interval is a product
pub low_is_product : (a b : Ends) (k : ℤ) → IsOrdered b → lies_in k a ≡ true → IsProductOf a b (scaled_ends k b).lo
low_is_product a b k order has = elim (scaled_low k b) [
  | inl e ↦ record { first = k; second = b.lo; in_first = has; in_second = in_low b order; is = sym e }
  | inr e ↦ record { first = k; second = b.hi; in_first = has; in_second = in_high b order; is = sym e }
]

pub high_is_product : (a b : Ends) (k : ℤ) → IsOrdered b → lies_in k a ≡ true → IsProductOf a b (scaled_ends k b).hi
high_is_product a b k order has = elim (scaled_high k b) [
  | inl e ↦ record { first = k; second = b.lo; in_first = has; in_second = in_low b order; is = sym e }
  | inr e ↦ record { first = k; second = b.hi; in_first = has; in_second = in_high b order; is = sym e }
]

pub product_fits : (a b : Ends) (z : ℤ) → ProductsFit a b → IsProductOf a b z → FitsSigned w128 z
product_fits a b z fit p = subst (FitsSigned w128) p.is (fit.fits p.first p.second p.in_first p.in_second)

pub min_cases : (x y : ℤ) → (int_min x y ≡ x) ⊎ (int_min x y ≡ y)
min_cases x y = grind (arith, ints, clamps)

pub max_cases : (x y : ℤ) → (int_max x y ≡ x) ⊎ (int_max x y ≡ y)
max_cases x y = grind (arith, ints, clamps)

pub le_min : (p q x z : ℤ) → p ≤ℤ x → x ≤ℤ z → int_min p q ≤ℤ z
le_min p q x z h g = grind (arith, ints, clamps)

pub min_le : (p q x z : ℤ) → q ≤ℤ x → x ≤ℤ z → int_min p q ≤ℤ z
min_le p q x z h g = grind (arith, ints, clamps)

pub le_max : (p q x z : ℤ) → x ≤ℤ q → z ≤ℤ x → z ≤ℤ int_max p q
le_max p q x z h g = grind (arith, ints, clamps)

pub max_le : (p q x z : ℤ) → x ≤ℤ p → z ≤ℤ x → z ≤ℤ int_max p q
max_le p q x z h g = grind (arith, ints, clamps)

-- a product lies between the products with the ends of the first interval
pub between_ends : (a : Ends) (x y : ℤ) → a.lo ≤ℤ x → x ≤ℤ a.hi
    → (((a.lo *ℤ y) ≤ℤ (x *ℤ y)) × ((x *ℤ y) ≤ℤ (a.hi *ℤ y))) ⊎ (((a.hi *ℤ y) ≤ℤ (x *ℤ y)) × ((x *ℤ y) ≤ℤ (a.lo *ℤ y)))
between_ends a x y low high =
    let at_x : (x *ℤ y) ≡ (y *ℤ x) = *ℤ_comm x y in
    let at_lo : (a.lo *ℤ y) ≡ (y *ℤ a.lo) = *ℤ_comm a.lo y in
    let at_hi : (a.hi *ℤ y) ≡ (y *ℤ a.hi) = *ℤ_comm a.hi y in
    elim (true_or_false (int_lt y (pos 0))) [
      | inl t ↦ inr (rw (at_x, at_lo, at_hi) (times_down y x a.hi (lt_true y (pos 0) t) high, times_down y a.lo x (lt_true y (pos 0) t) low))
      | inr f ↦ inl (rw (at_x, at_lo, at_hi) (times_up y a.lo x (lt_false y (pos 0) f) low, times_up y x a.hi (lt_false y (pos 0) f) high))
    ]

pub product_within : (a b : Ends) (x y : ℤ) → a.lo ≤ℤ x → x ≤ℤ a.hi → b.lo ≤ℤ y → y ≤ℤ b.hi
    → ((hull_ends (scaled_ends a.lo b) (scaled_ends a.hi b)).lo ≤ℤ (x *ℤ y)) × ((x *ℤ y) ≤ℤ (hull_ends (scaled_ends a.lo b) (scaled_ends a.hi b)).hi)
product_within a b x y xl xh yl yh =
    let at_lo = scaled_has a.lo b y yl yh in
    let at_hi = scaled_has a.hi b y yl yh in
    let lo_low : (scaled_ends a.lo b).lo ≤ℤ (a.lo *ℤ y) = at_lo.0 in
    let lo_high : (a.lo *ℤ y) ≤ℤ (scaled_ends a.lo b).hi = at_lo.1 in
    let hi_low : (scaled_ends a.hi b).lo ≤ℤ (a.hi *ℤ y) = at_hi.0 in
    let hi_high : (a.hi *ℤ y) ≤ℤ (scaled_ends a.hi b).hi = at_hi.1 in
    elim (between_ends a x y xl xh) [
      | inl p ↦ (let c : (a.lo *ℤ y) ≤ℤ (x *ℤ y) = p.0 in let d : (x *ℤ y) ≤ℤ (a.hi *ℤ y) = p.1 in (
        le_min (scaled_ends a.lo b).lo (scaled_ends a.hi b).lo (a.lo *ℤ y) (x *ℤ y) lo_low c,
        le_max (scaled_ends a.lo b).hi (scaled_ends a.hi b).hi (a.hi *ℤ y) (x *ℤ y) hi_high d,
      ))
      | inr p ↦ (let c : (a.hi *ℤ y) ≤ℤ (x *ℤ y) = p.0 in let d : (x *ℤ y) ≤ℤ (a.lo *ℤ y) = p.1 in (
        min_le (scaled_ends a.lo b).lo (scaled_ends a.hi b).lo (a.hi *ℤ y) (x *ℤ y) hi_low c,
        max_le (scaled_ends a.lo b).hi (scaled_ends a.hi b).hi (a.lo *ℤ y) (x *ℤ y) lo_high d,
      ))
    ]

-- the hull of the multiples by the two ends is the least interval over the products
pub products_hull : (a b : Ends) → IsOrdered a → IsOrdered b → IsProductHull a b (hull_ends (scaled_ends a.lo b) (scaled_ends a.hi b))
products_hull a b oa ob =
    record {
      all = λ x y h g.
          (let p = product_within a b x y (le_true a.lo x (and_first (int_le a.lo x) (int_le x a.hi) h)) (le_true x a.hi (and_second (int_le a.lo x) (int_le x a.hi) h))
          (le_true b.lo y (and_first (int_le b.lo y) (int_le y b.hi) g)) (le_true y b.hi (and_second (int_le b.lo y) (int_le y b.hi) g)) in
          and_both _ _ (true_le _ _ p.0) (true_le _ _ p.1));
      low = elim (min_cases (scaled_ends a.lo b).lo (scaled_ends a.hi b).lo) [
        | inl e ↦ subst (IsProductOf a b) (sym e) (low_is_product a b a.lo ob (in_low a oa))
        | inr e ↦ subst (IsProductOf a b) (sym e) (low_is_product a b a.hi ob (in_high a oa))
      ];
      high = elim (max_cases (scaled_ends a.lo b).hi (scaled_ends a.hi b).hi) [
        | inl e ↦ subst (IsProductOf a b) (sym e) (high_is_product a b a.lo ob (in_low a oa))
        | inr e ↦ subst (IsProductOf a b) (sym e) (high_is_product a b a.hi ob (in_high a oa))
      ];
    }

-- the ends of the multiples by an integer of the first interval have 128 bits
pub multiples_fit : (a b : Ends) (k : ℤ) → IsOrdered b → ProductsFit a b → lies_in k a ≡ true
    → FitsSigned w128 (scaled_ends k b).lo × FitsSigned w128 (scaled_ends k b).hi
multiples_fit a b k order fit has =
    (product_fits a b (scaled_ends k b).lo fit (low_is_product a b k order has), product_fits a b (scaled_ends k b).hi fit (high_is_product a b k order has))
