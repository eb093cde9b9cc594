-- Rising lists are known by their members, and sorting a list gives its values, rising.
use Rattle.std.proofs.Common.{◌≡◌, ℕ, ◌<◌, Bool, true, false, ◌||◌, if◌then◌else◌, List, [], ◌∷◌, length, ℤ, ◌<ℤ◌, ◌≤ℤ◌, int_lt, refl, sym, ◌∙◌, ap, subst, arith, ◌⊎◌, inl, inr}
use Rattle.std.proofs.lemmas.Int.{ints}
use Rattle.std.specs.Ordering.{int_eq}
use Rattle.dom_core.specs.Rises.{is_among, Rises, range_of, IsSortedOf, IsDistinctCount}
use Rattle.dom_core.proofs.RisesLaws.{same_test, int_eq_same, int_eq_from, among_cases, among_head, among_tail, range_ends}
use Rattle.dom_core.proofs.ProductLaws.{lt_true, lt_false}
use Rattle.dom_core.proofs.TestLaws.{true_or_false, not_both}
use Rattle.dom_domains.specs.Allowed.{with_value, rising}

-- ---- rising lists with the same members are equal

same_head : (x y : ℤ) (xs ys : List ℤ) → Rises (x ∷ xs) → Rises (y ∷ ys) → is_among x (y ∷ ys) ≡ true → is_among y (x ∷ xs) ≡ true → x ≡ y
same_head x y xs ys r s h g = elim (among_cases x y ys h) [
  | inl e ↦ e
  | inr later ↦ (let up : y <ℤ x = s.0 x later in
      elim (among_cases y x xs g) [ inl e ↦ sym e | inr other ↦ (let down : x <ℤ y = r.0 y other in absurd (omega (arith, ints))) ])
]

tail_member : (x y z : ℤ) (xs ys : List ℤ) → x ≡ y → x <ℤ z → is_among z (y ∷ ys) ≡ true → is_among z ys ≡ true
tail_member x y z xs ys e up h = elim (among_cases z y ys h) [ inl same ↦ absurd (omega (arith, ints)) | inr later ↦ later ]

pub rises_same : (xs ys : List ℤ) → Rises xs → Rises ys → ((x : ℤ) → is_among x xs ≡ is_among x ys) → xs ≡ ys
rises_same [] [] r s h = refl
rises_same [] (y ∷ ys) r s h = absurd (let e : false ≡ true = h y ∙ among_head y ys in cc)
rises_same (x ∷ xs) [] r s h = absurd (let e : false ≡ true = sym (h x) ∙ among_head x xs in cc)
rises_same (x ∷ xs) (y ∷ ys) r s h =
    let e : x ≡ y = same_head x y xs ys r s (sym (h x) ∙ among_head x xs) (h y ∙ among_head y ys) in
    let rest : xs ≡ ys = rises_same xs ys r.1 s.1 (λ z. same_test _ _
    (λ t. tail_member x y z xs ys e (r.0 z t) (sym (h z) ∙ among_tail z x xs t))
    (λ t. (let up : y <ℤ z = s.0 z t in tail_member y x z ys xs (sym e) up (h z ∙ among_tail z y ys t)))) in
    ap (λ (z : ℤ). z ∷ xs) e ∙ ap (λ (zs : List ℤ). y ∷ zs) rest

-- ---- one value more

-- where the value comes to stand
placed : (x y : ℤ) (ys : List ℤ)
    → ((x <ℤ y) × (with_value x (y ∷ ys) ≡ x ∷ y ∷ ys)) ⊎ (((x ≡ y) × (with_value x (y ∷ ys) ≡ y ∷ ys)) ⊎ ((y <ℤ x) × (with_value x (y ∷ ys) ≡ y ∷ with_value x ys)))
placed x y ys =
    let at : (a b : Bool) → int_lt x y ≡ a → int_eq x y ≡ b → with_value x (y ∷ ys) ≡ (if a then x ∷ y ∷ ys else (if b then y ∷ ys else y ∷ with_value x ys)) =
    λ a b e f. ap (λ (t : Bool). if t then x ∷ y ∷ ys else (if int_eq x y then y ∷ ys else y ∷ with_value x ys)) e
    ∙ ap (λ (t : Bool). if a then x ∷ y ∷ ys else (if t then y ∷ ys else y ∷ with_value x ys)) f in
    elim (true_or_false (int_lt x y)) [
      | inl e ↦ inl (lt_true x y e, at true (int_eq x y) e refl)
      | inr e ↦ (let over : y ≤ℤ x = lt_false x y e in
          elim (true_or_false (int_eq x y)) [
            | inl f ↦ inr (inl (int_eq_same x y f, at false true e f))
            | inr f ↦ (let apart : x ≡ y → ⊥ = λ same. not_both (int_eq x y) (int_eq_from x y same) f in
                inr (inr (omega (arith, ints), at false false e f)))
          ])
    ]

or_twice : (a b : Bool) → (a || b) ≡ (a || (a || b))
or_twice true b = refl
or_twice false b = refl

or_swap : (a b c : Bool) → (a || (b || c)) ≡ (b || (a || c))
or_swap true true c = refl
or_swap true false c = refl
or_swap false true c = refl
or_swap false false c = refl

pub with_value-among : (x v : ℤ) (ys : List ℤ) → is_among v (with_value x ys) ≡ is_among v (x ∷ ys)
with_value-among x v [] = refl
with_value-among x v (y ∷ ys) = elim (placed x y ys) [
  | inl p ↦ ap (λ (zs : List ℤ). is_among v zs) p.1
  | inr q ↦ elim q [
    | inl p ↦ ap (λ (zs : List ℤ). is_among v zs) p.1 ∙ or_twice (int_eq v y) (is_among v ys) ∙ ap (λ (z : ℤ). int_eq v z || is_among v (y ∷ ys)) (sym p.0)
    | inr p ↦ ap (λ (zs : List ℤ). is_among v zs) p.1 ∙ ap (λ (b : Bool). int_eq v y || b) (with_value-among x v ys) ∙ or_swap (int_eq v y) (int_eq v x) (is_among v ys)
  ]
]

with_value_rises : (x : ℤ) (ys : List ℤ) → Rises ys → Rises (with_value x ys)
with_value_rises x [] r = ((λ y t. absurd (cc)), tt)
with_value_rises x (y ∷ ys) r = elim (placed x y ys) [
  | inl p ↦ subst Rises (sym p.1) (
    (λ z t. elim (among_cases z y ys t) [
      | inl same ↦ (let low : x <ℤ y = p.0 in omega (arith, ints))
      | inr later ↦ (let low : x <ℤ y = p.0 in let up : y <ℤ z = r.0 z later in omega (arith, ints))
    ]),
    r,
  )
  | inr q ↦ elim q [
    | inl p ↦ subst Rises (sym p.1) r
    | inr p ↦ subst Rises (sym p.1) (
      (λ z t. elim (among_cases z x ys (sym (with_value-among x z ys) ∙ t)) [
        | inl same ↦ (let low : y <ℤ x = p.0 in omega (arith, ints))
        | inr later ↦ r.0 z later
      ]),
      with_value_rises x ys r.1,
    )
  ]
]

-- ---- the values of a list, rising

pub rising-among : (v : ℤ) (xs : List ℤ) → is_among v (rising xs) ≡ is_among v xs
rising-among v [] = refl
rising-among v (x ∷ xs) = with_value-among x v (rising xs) ∙ ap (λ (b : Bool). int_eq v x || b) (rising-among v xs)

pub rising_rises : (xs : List ℤ) → Rises (rising xs)
rising_rises [] = tt
rising_rises (x ∷ xs) = with_value_rises x (rising xs) (rising_rises xs)

pub sorted_rising : (xs ys : List ℤ) → IsSortedOf xs ys → ys ≡ rising xs
sorted_rising xs ys s = rises_same ys (rising xs) s.rises (rising_rises xs) (λ x. s.same x ∙ sym (rising-among x xs))

pub distinct_rising : (xs : List ℤ) (count : ℕ) → IsDistinctCount xs count → count ≡ length (rising xs)
distinct_rising xs count d = sym d.length ∙ ap (λ (ys : List ℤ). length ys) (sorted_rising xs d.values d.sorted)

-- ---- lists without a value

pub no_length : (xs : List ℤ) → (0 < length xs → ⊥) → xs ≡ []
no_length [] h = refl
no_length (x ∷ xs) h = absurd (h (omega arith))

pub range_none : (lo hi : ℤ) → hi <ℤ lo → range_of lo hi ≡ []
range_none lo hi h = no_length (range_of lo hi) (λ some. (let ends : lo ≤ℤ hi = range_ends lo hi some in absurd (omega (arith, ints))))

pub rising_some : (x : ℤ) (xs : List ℤ) → rising (x ∷ xs) ≡ [] → ⊥
rising_some x xs e = absurd (let t : true ≡ false = sym (among_head x xs) ∙ sym (rising-among x (x ∷ xs)) ∙ ap (λ (ys : List ℤ). is_among x ys) e in cc)
