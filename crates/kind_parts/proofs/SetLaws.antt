-- Laws of sets: what a cell has in common with one, and what stays in one.
use Rattle.std.proofs.Common.{◌≡◌, ◌&&◌, ◌||◌, Bool, true, List, [], ◌∷◌, ℤ, pos, ◌-ℤ◌, ◌<ℤ◌, ◌≤ℤ◌, int_le, int_lt, refl, sym, ◌∙◌, subst, arith, inl, inr}
use Rattle.std.proofs.lemmas.Int.{ints, clamps}
use Rattle.std.specs.Int.{int_max, int_min}
use Rattle.std.specs.List.{list_any}
use Rattle.std.specs.Ordering.{int_eq}
use Rattle.dom_core.specs.Ends.{Ends, lies_in}
use Rattle.dom_core.specs.Rises.{is_among, Rises, range_of}
use Rattle.dom_core.specs.declared.set.Set.{Set}
use Rattle.dom_core.specs.declared.set.Set.TheVariants.{Range, Values}
use Rattle.dom_core.proofs.RisesLaws.{same_test, int_eq_same, or_true, or_left, or_right, among_cases, among_head, among_tail, range-among}
use Rattle.dom_core.proofs.ProductLaws.{lt_true}
use Rattle.dom_core.proofs.TestLaws.{le_true, true_le, and_first, and_second, and_both}
use Rattle.dom_cells.specs.Cell.{has_of}
use Rattle.dom_cells.specs.declared.start.Start.{Start}
use Rattle.dom_cells.specs.declared.start.Start.TheVariants.{Values as Listed, Span}
use Rattle.kind_parts.specs.Set.{set_has, set_meets, all_among, covers, range_keeps, list_keeps, set_keeps}

-- ---- tests of lists

-- a value of the list that passes the test
pub record Found (test : ℤ → Bool) (xs : List ℤ) : Type 0 where
  pub value : ℤ
  pub among : is_among value xs ≡ true
  pub passes : test value ≡ true

found_later : (test : ℤ → Bool) (x : ℤ) (xs : List ℤ) → Found test xs → Found test (x ∷ xs)
found_later test x xs f = record { value = f.value; among = among_tail f.value x xs f.among; passes = f.passes }

pub any_found : (test : ℤ → Bool) (xs : List ℤ) → list_any test xs ≡ true → Found test xs
any_found test [] h = absurd (cc)
any_found test (x ∷ xs) h = elim (or_true (test x) (list_any test xs) h) [
  | inl here ↦ record { value = x; among = among_head x xs; passes = here }
  | inr later ↦ found_later test x xs (any_found test xs later)
]

pub found_any : (test : ℤ → Bool) (xs : List ℤ) (x : ℤ) → is_among x xs ≡ true → test x ≡ true → list_any test xs ≡ true
found_any test [] x h t = absurd (cc)
found_any test (y ∷ ys) x h t = elim (among_cases x y ys h) [
  | inl same ↦ or_left (test y) (list_any test ys) (subst (λ (z : ℤ). test z ≡ true) same t)
  | inr later ↦ or_right (test y) (list_any test ys) (found_any test ys x later t)
]

pub all_among_has : (xs ys : List ℤ) (x : ℤ) → all_among xs ys ≡ true → is_among x xs ≡ true → is_among x ys ≡ true
all_among_has [] ys x all h = absurd (cc)
all_among_has (z ∷ zs) ys x all h = elim (among_cases x z zs h) [
  | inl same ↦ subst (λ (w : ℤ). is_among w ys ≡ true) (sym same) (and_first (is_among z ys) (all_among zs ys) all)
  | inr later ↦ all_among_has zs ys x (and_second (is_among z ys) (all_among zs ys) all) later
]

pub among_all : (xs ys : List ℤ) → ((x : ℤ) → is_among x xs ≡ true → is_among x ys ≡ true) → all_among xs ys ≡ true
among_all [] ys h = refl
among_all (z ∷ zs) ys h =
    and_both (is_among z ys) (all_among zs ys) (h z (among_head z zs)) (among_all zs ys (λ x t. h x (among_tail x z zs t)))

-- ---- what a cell and a set have in common

-- a value of the cell that lies in the set
pub record Common (s : Set) (c : Start) : Type 0 where
  pub value : ℤ
  pub in_set : set_has s value ≡ true
  pub in_cell : has_of c value ≡ true

pub between : (lo x hi : ℤ) → lo ≤ℤ x → x ≤ℤ hi → (int_le lo x && int_le x hi) ≡ true
between lo x hi a b = and_both (int_le lo x) (int_le x hi) (true_le lo x a) (true_le x hi b)

pub from_low : (lo x hi : ℤ) → (int_le lo x && int_le x hi) ≡ true → lo ≤ℤ x
from_low lo x hi h = le_true lo x (and_first (int_le lo x) (int_le x hi) h)

pub to_high : (lo x hi : ℤ) → (int_le lo x && int_le x hi) ≡ true → x ≤ℤ hi
to_high lo x hi h = le_true x hi (and_second (int_le lo x) (int_le x hi) h)

max_first : (a b : ℤ) → a ≤ℤ int_max a b
max_first a b = grind (arith, ints, clamps)

max_second : (a b : ℤ) → b ≤ℤ int_max a b
max_second a b = grind (arith, ints, clamps)

min_first : (a b : ℤ) → int_min a b ≤ℤ a
min_first a b = grind (arith, ints, clamps)

min_second : (a b : ℤ) → int_min a b ≤ℤ b
min_second a b = grind (arith, ints, clamps)

max_least : (a b x : ℤ) → a ≤ℤ x → b ≤ℤ x → int_max a b ≤ℤ x
max_least a b x h g = grind (arith, ints, clamps)

min_greatest : (a b x : ℤ) → x ≤ℤ a → x ≤ℤ b → x ≤ℤ int_min a b
min_greatest a b x h g = grind (arith, ints, clamps)

pub meets_common : (s : Set) (c : Start) → set_meets s c ≡ true → Common s c
meets_common (Range lo hi) (Listed xs) h =
    let f : Found (λ x. int_le lo x && int_le x hi) xs = any_found (λ x. int_le lo x && int_le x hi) xs h in
    record { value = f.value; in_set = f.passes; in_cell = f.among }
meets_common (Range lo hi) (Span low high) h =
    let order : int_max low lo ≤ℤ int_min high hi = le_true (int_max low lo) (int_min high hi) h in
    let a : low ≤ℤ int_max low lo = max_first low lo in
    let b : lo ≤ℤ int_max low lo = max_second low lo in
    let d : int_min high hi ≤ℤ high = min_first high hi in
    let e : int_min high hi ≤ℤ hi = min_second high hi in
    record {
      value = int_max low lo;
      in_set = between lo (int_max low lo) hi b (omega (arith, ints));
      in_cell = between low (int_max low lo) high a (omega (arith, ints));
    }
meets_common (Values xs) c h =
    let f : Found (has_of c) xs = any_found (has_of c) xs h in
    record { value = f.value; in_set = f.among; in_cell = f.passes }

pub common_meets : (s : Set) (c : Start) → Common s c → set_meets s c ≡ true
common_meets (Range lo hi) (Listed xs) m = found_any (λ x. int_le lo x && int_le x hi) xs m.value m.in_cell m.in_set
common_meets (Range lo hi) (Span low high) m =
    let a : lo ≤ℤ m.value = from_low lo m.value hi m.in_set in
    let b : m.value ≤ℤ hi = to_high lo m.value hi m.in_set in
    let d : low ≤ℤ m.value = from_low low m.value high m.in_cell in
    let e : m.value ≤ℤ high = to_high low m.value high m.in_cell in
    let p : int_max low lo ≤ℤ m.value = max_least low lo m.value d a in
    let q : m.value ≤ℤ int_min high hi = min_greatest high hi m.value e b in
    true_le (int_max low lo) (int_min high hi) (omega (arith, ints))
common_meets (Values xs) c m = found_any (has_of c) xs m.value m.in_set m.in_cell

-- a cell of one value has one in common with a set where that lies in the set
pub meets_point : (s : Set) (v : ℤ) → set_meets s (Span v v) ≡ set_has s v
meets_point s v = same_test _ _
    (λ h. let m : Common s (Span v v) = meets_common s (Span v v) h in
    let low : v ≤ℤ m.value = from_low v m.value v m.in_cell in
    let high : m.value ≤ℤ v = to_high v m.value v m.in_cell in
    let same : m.value ≡ v = omega (arith, ints) in
    subst (λ (x : ℤ). set_has s x ≡ true) same m.in_set)
    (λ h. common_meets s (Span v v) (record { value = v; in_set = h; in_cell = between v v v (omega (arith, ints)) (omega (arith, ints)) }))

-- ---- what stays in a set

range_stays : (lo hi : ℤ) (change after : Ends) (x y : ℤ) → lies_in y after ≡ true → lies_in (y -ℤ x) change ≡ true
    → range_keeps lo hi change after ≡ true → set_has (Range lo hi) x ≡ true → set_has (Range lo hi) y ≡ true
range_stays lo hi change after x y lies moves keeps has =
    let y_low : after.lo ≤ℤ y = from_low after.lo y after.hi lies in
    let y_high : y ≤ℤ after.hi = to_high after.lo y after.hi lies in
    let d_low : change.lo ≤ℤ (y -ℤ x) = from_low change.lo (y -ℤ x) change.hi moves in
    let d_high : (y -ℤ x) ≤ℤ change.hi = to_high change.lo (y -ℤ x) change.hi moves in
    let x_low : lo ≤ℤ x = from_low lo x hi has in
    let x_high : x ≤ℤ hi = to_high lo x hi has in
    let below : (int_le after.hi hi || int_le change.hi (pos 0)) ≡ true = and_first (int_le after.hi hi || int_le change.hi (pos 0)) _ keeps in
    let above : (int_le lo after.lo || int_le (pos 0) change.lo) ≡ true = and_second (int_le after.hi hi || int_le change.hi (pos 0)) _ keeps in
    between lo y hi
    (elim (or_true (int_le lo after.lo) (int_le (pos 0) change.lo) above) [
      | inl a ↦ (let b : lo ≤ℤ after.lo = le_true lo after.lo a in omega (arith, ints))
      | inr a ↦ (let b : pos 0 ≤ℤ change.lo = le_true (pos 0) change.lo a in omega (arith, ints))
    ])
    (elim (or_true (int_le after.hi hi) (int_le change.hi (pos 0)) below) [
      | inl a ↦ (let b : after.hi ≤ℤ hi = le_true after.hi hi a in omega (arith, ints))
      | inr a ↦ (let b : change.hi ≤ℤ pos 0 = le_true change.hi (pos 0) a in omega (arith, ints))
    ])

list_stays : (xs : List ℤ) (change after : Ends) (x y : ℤ) → lies_in y after ≡ true → lies_in (y -ℤ x) change ≡ true
    → list_keeps xs change after ≡ true → is_among x xs ≡ true → is_among y xs ≡ true
list_stays xs change after x y lies moves keeps has =
    elim (or_true (int_eq change.lo (pos 0) && int_eq change.hi (pos 0)) (covers xs after) keeps) [
      | inl still ↦ (let lo : change.lo ≡ pos 0 = int_eq_same change.lo (pos 0) (and_first (int_eq change.lo (pos 0)) (int_eq change.hi (pos 0)) still) in
          let hi : change.hi ≡ pos 0 = int_eq_same change.hi (pos 0) (and_second (int_eq change.lo (pos 0)) (int_eq change.hi (pos 0)) still) in
          let d_low : change.lo ≤ℤ (y -ℤ x) = from_low change.lo (y -ℤ x) change.hi moves in
          let d_high : (y -ℤ x) ≤ℤ change.hi = to_high change.lo (y -ℤ x) change.hi moves in
          let same : x ≡ y = omega (arith, ints) in
          subst (λ (z : ℤ). is_among z xs ≡ true) same has)
      | inr all ↦ all_among_has (range_of after.lo after.hi) xs y all (range-among after.lo after.hi y ∙ lies)
    ]

pub set_stays : (s : Set) (change after : Ends) (x y : ℤ) → lies_in y after ≡ true → lies_in (y -ℤ x) change ≡ true
    → set_keeps s change after ≡ true → set_has s x ≡ true → set_has s y ≡ true
set_stays (Range lo hi) change after x y lies moves keeps has = range_stays lo hi change after x y lies moves keeps has
set_stays (Values xs) change after x y lies moves keeps has = list_stays xs change after x y lies moves keeps has

-- ---- lists that are written out

-- each value is less than the next
abbrev pub steps : List ℤ → Bool
steps [] = true
steps (x ∷ []) = true
steps (x ∷ (y ∷ ys)) = int_lt x y && steps (y ∷ ys)

pub rises_by_steps : (xs : List ℤ) → steps xs ≡ true → Rises xs
rises_by_steps [] h = tt
rises_by_steps (x ∷ []) h = ((λ y t. absurd (cc)), tt)
rises_by_steps (x ∷ (y ∷ ys)) h =
    let rest : Rises (y ∷ ys) = rises_by_steps (y ∷ ys) (and_second (int_lt x y) (steps (y ∷ ys)) h) in
    let up : x <ℤ y = lt_true x y (and_first (int_lt x y) (steps (y ∷ ys)) h) in (
      (λ z t. elim (among_cases z y ys t) [
        | inl same ↦ omega (arith, ints)
        | inr later ↦ (let above : y <ℤ z = rest.0 z later in omega (arith, ints))
      ]),
      rest,
    )
