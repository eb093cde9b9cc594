-- Laws of relations of numbers to a bound.
use Rattle.std.proofs.Common.{◌≡◌, Bool, true, false, not, ◌&&◌, ℤ, pos, negsuc, ◌-ℤ◌, ◌<ℤ◌, ◌≤ℤ◌, int_le, int_lt, if◌then◌else◌, refl, sym, ◌∙◌, ap, arith, inl, inr}
use Rattle.std.proofs.lemmas.Int.{ints}
use Rattle.std.specs.Ordering.{int_eq}
use Rattle.dom_core.specs.Ends.{Ends, only, lies_in}
use Rattle.dom_core.specs.declared.relation.Relation.{Relation}
use Rattle.dom_core.specs.declared.relation.Relation.TheVariants.{AtMost, Equal, Differ}
use Rattle.dom_core.proofs.TestLaws.{le_true, true_le, not_true, not_false, and_first, and_second, and_both, not_both, true_or_false}
use Rattle.dom_core.proofs.RisesLaws.{same_test, int_eq_same, int_eq_from, or_true}
use Rattle.dom_core.proofs.ProductLaws.{lt_true}
use Rattle.kind_law.specs.Laws.{EndsIn}
use Rattle.kind_parts.specs.Relation.{is_related, is_only_value, refuted_by, certain_by, kept_by, number_of, truth_ends, truth_over, truth_row}
use Rattle.dom_core.proofs.EndsLaws.{lies_low, lies_high, lies}
use Rattle.kind_law.proofs.ChangeLaws.{difference_has}

-- ---- single numbers and intervals

lt_from : (a b : ℤ) → a <ℤ b → int_lt a b ≡ true
lt_from a b h = grind (arith, ints)

-- smaller intervals are refuted where larger ones are
pub refuted_smaller : (r : Relation) (small large : Ends) (c : ℤ) → EndsIn small large → refuted_by r large c ≡ true → refuted_by r small c ≡ true
refuted_smaller AtMost small large c e h =
    let low : large.lo ≤ℤ small.lo = e.low in
    let over : c <ℤ large.lo = lt_true c large.lo h in
    lt_from c small.lo (omega (arith, ints))
refuted_smaller Equal small large c e h =
    let low : large.lo ≤ℤ small.lo = e.low in
    let high : small.hi ≤ℤ large.hi = e.high in
    not_false (lies_in c small) (λ t.
    (let a : small.lo ≤ℤ c = lies_low c small t in
    let b : c ≤ℤ small.hi = lies_high c small t in
    not_both (lies_in c large) (lies c large (omega (arith, ints)) (omega (arith, ints))) (not_true (lies_in c large) h)))
refuted_smaller Differ small large c e h =
    let a : large.lo ≡ c = int_eq_same large.lo c (and_first (int_eq large.lo c) (int_eq large.hi c) h) in
    let b : large.hi ≡ c = int_eq_same large.hi c (and_second (int_eq large.lo c) (int_eq large.hi c) h) in
    let low : large.lo ≤ℤ small.lo = e.low in
    let order : small.lo ≤ℤ small.hi = e.order in
    let high : small.hi ≤ℤ large.hi = e.high in
    and_both (int_eq small.lo c) (int_eq small.hi c) (int_eq_from small.lo c (omega (arith, ints))) (int_eq_from small.hi c (omega (arith, ints)))

doubled : (b : Bool) → (b && b) ≡ not (not b)
doubled true = refl
doubled false = refl

-- one number is refuted exactly where it doesn't stand in the relation
pub refuted_only : (r : Relation) (s c : ℤ) → refuted_by r (only s) c ≡ not (is_related r s c)
refuted_only AtMost s c = grind (arith, ints)
refuted_only Equal s c = ap not (same_test (lies_in c (only s)) (int_eq s c)
    (λ h. (let a : s ≤ℤ c = lies_low c (only s) h in let b : c ≤ℤ s = lies_high c (only s) h in int_eq_from s c (omega (arith, ints))))
    (λ h. (let e : s ≡ c = int_eq_same s c h in lies c (only s) (omega (arith, ints)) (omega (arith, ints)))))
refuted_only Differ s c = doubled (int_eq s c)

pub only_one : (e : Ends) (x c : ℤ) → lies_in x e ≡ true → is_only_value e c ≡ true → x ≡ c
only_one e x c h o =
    let a : e.lo ≡ c = int_eq_same e.lo c (and_first (int_eq e.lo c) (int_eq e.hi c) o) in
    let b : e.hi ≡ c = int_eq_same e.hi c (and_second (int_eq e.lo c) (int_eq e.hi c) o) in
    let low : e.lo ≤ℤ x = lies_low x e h in
    let high : x ≤ℤ e.hi = lies_high x e h in
    omega (arith, ints)

only_zero : (change : Ends) (s t : ℤ) → lies_in (t -ℤ s) change ≡ true → is_only_value change (pos 0) ≡ true → t ≡ s
only_zero change s t d o = let e : (t -ℤ s) ≡ pos 0 = only_one change (t -ℤ s) (pos 0) d o in omega (arith, ints)

-- a relation stays where the change and the numbers afterwards allow nothing else
pub kept_related : (r : Relation) (change after : Ends) (c s t : ℤ) → lies_in (t -ℤ s) change ≡ true → lies_in t after ≡ true → kept_by r change after c ≡ true
    → is_related r s c ≡ true → is_related r t c ≡ true
kept_related AtMost change after c s t d a k h =
    let old : s ≤ℤ c = le_true s c h in
    elim (or_true (int_le change.hi (pos 0)) (int_le after.hi c) k) [
      | inl falls ↦ (let f : change.hi ≤ℤ pos 0 = le_true change.hi (pos 0) falls in
          let m : (t -ℤ s) ≤ℤ change.hi = lies_high (t -ℤ s) change d in true_le t c (omega (arith, ints)))
      | inr low ↦ (let f : after.hi ≤ℤ c = le_true after.hi c low in
          let m : t ≤ℤ after.hi = lies_high t after a in true_le t c (omega (arith, ints)))
    ]
kept_related Equal change after c s t d a k h =
    let old : s ≡ c = int_eq_same s c h in
    elim (or_true (is_only_value change (pos 0)) (is_only_value after c) k) [
      | inl still ↦ int_eq_from t c (only_zero change s t d still ∙ old)
      | inr one ↦ int_eq_from t c (only_one after t c a one)
    ]
kept_related Differ change after c s t d a k h =
    elim (or_true (is_only_value change (pos 0)) (not (lies_in c after)) k) [
      | inl still ↦ ap (λ (x : ℤ). not (int_eq x c)) (only_zero change s t d still) ∙ h
      | inr away ↦ not_false (int_eq t c) (λ e. not_both (lies_in c after)
          (ap (λ (x : ℤ). lies_in x after) (sym (int_eq_same t c e)) ∙ a) (not_true (lies_in c after) away))
    ]

-- ---- truths

-- what is certain holds
pub certain_holds : (r : Relation) (t : Ends) (c s : ℤ) → lies_in s t ≡ true → certain_by r t c ≡ true → is_related r s c ≡ true
certain_holds AtMost t c s h k =
    let high : s ≤ℤ t.hi = lies_high s t h in
    let top : t.hi ≤ℤ c = le_true t.hi c k in
    true_le s c (omega (arith, ints))
certain_holds Equal t c s h k = int_eq_from s c (only_one t s c h k)
certain_holds Differ t c s h k =
    elim (true_or_false (int_eq s c)) [
      | inl e ↦ absurd (not_both (lies_in c t) (ap (λ (x : ℤ). lies_in x t) (sym (int_eq_same s c e)) ∙ h) (not_true (lies_in c t) k))
      | inr e ↦ ap not e
    ]

point_within : (s : ℤ) (t : Ends) → lies_in s t ≡ true → EndsIn (only s) t
point_within s t h = record { low = lies_low s t h; order = omega (arith, ints); high = lies_high s t h }

-- what is refuted doesn't hold
pub refuted_fails : (r : Relation) (t : Ends) (c s : ℤ) → lies_in s t ≡ true → refuted_by r t c ≡ true → is_related r s c ≡ false
refuted_fails r t c s h k =
    not_true (is_related r s c) (sym (refuted_only r s c) ∙ refuted_smaller r (only s) t c (point_within s t h) k)

number_lies : (certain refuted b : Bool) → (certain ≡ true → b ≡ true) → (refuted ≡ true → b ≡ false) → lies_in (number_of b) (truth_ends certain refuted) ≡ true
number_lies true true true f g = absurd (not_both true refl (g refl))
number_lies true true false f g = absurd (not_both false (f refl) refl)
number_lies true false true f g = refl
number_lies true false false f g = absurd (not_both false (f refl) refl)
number_lies false true true f g = absurd (not_both true refl (g refl))
number_lies false true false f g = refl
number_lies false false true f g = refl
number_lies false false false f g = refl

-- the truth of a number lies among the truths of its interval
pub over_has : (r : Relation) (t : Ends) (c s : ℤ) → lies_in s t ≡ true → lies_in (number_of (is_related r s c)) (truth_over r t c) ≡ true
over_has r t c s h =
    number_lies (certain_by r t c) (refuted_by r t c) (is_related r s c)
    (certain_holds r t c s h) (refuted_fails r t c s h)

-- what is certain of larger intervals is so of smaller ones
pub certain_smaller : (r : Relation) (small large : Ends) (c : ℤ) → EndsIn small large → certain_by r large c ≡ true → certain_by r small c ≡ true
certain_smaller AtMost small large c e h =
    let top : large.hi ≤ℤ c = le_true large.hi c h in
    let high : small.hi ≤ℤ large.hi = e.high in
    true_le small.hi c (omega (arith, ints))
certain_smaller Equal small large c e h = refuted_smaller Differ small large c e h
certain_smaller Differ small large c e h = refuted_smaller Equal small large c e h

-- what is certain of an ordered interval isn't refuted there
pub not_refuted : (r : Relation) (t : Ends) (c : ℤ) → t.lo ≤ℤ t.hi → certain_by r t c ≡ true → refuted_by r t c ≡ true → ⊥
not_refuted r t c o h g =
    let first : lies_in t.lo t ≡ true = lies t.lo t (omega (arith, ints)) o in
    not_both (is_related r t.lo c) (certain_holds r t c t.lo first h) (refuted_fails r t c t.lo first g)

ends_in : (certain refuted wide_certain wide_refuted : Bool) → (wide_certain ≡ true → certain ≡ true) → (wide_refuted ≡ true → refuted ≡ true)
    → (certain ≡ true → refuted ≡ true → ⊥) → EndsIn (truth_ends certain refuted) (truth_ends wide_certain wide_refuted)
ends_in true true wc wr f g h = absurd (h refl refl)
ends_in true false true true f g h = absurd (not_both false (g refl) refl)
ends_in true false true false f g h = record { low = omega (arith, ints); order = omega (arith, ints); high = omega (arith, ints) }
ends_in true false false true f g h = absurd (not_both false (g refl) refl)
ends_in true false false false f g h = record { low = omega (arith, ints); order = omega (arith, ints); high = omega (arith, ints) }
ends_in false true true wr f g h = absurd (not_both false (f refl) refl)
ends_in false true false true f g h = record { low = omega (arith, ints); order = omega (arith, ints); high = omega (arith, ints) }
ends_in false true false false f g h = record { low = omega (arith, ints); order = omega (arith, ints); high = omega (arith, ints) }
ends_in false false true wr f g h = absurd (not_both false (f refl) refl)
ends_in false false false true f g h = absurd (not_both false (g refl) refl)
ends_in false false false false f g h = record { low = omega (arith, ints); order = omega (arith, ints); high = omega (arith, ints) }

-- smaller intervals have fewer truths
pub over_within : (r : Relation) (small large : Ends) (c : ℤ) → EndsIn small large → EndsIn (truth_over r small c) (truth_over r large c)
over_within r small large c e =
    ends_in (certain_by r small c) (refuted_by r small c) (certain_by r large c) (refuted_by r large c)
    (certain_smaller r small large c e) (refuted_smaller r small large c e) (not_refuted r small c e.order)

only_certain : (r : Relation) (s c : ℤ) → is_related r s c ≡ true → certain_by r (only s) c ≡ true
only_certain AtMost s c h = h
only_certain Equal s c h = and_both (int_eq s c) (int_eq s c) h h
only_certain Differ s c h =
    elim (true_or_false (lies_in c (only s))) [
      | inl t ↦ (let low : s ≤ℤ c = lies_low c (only s) t in
          let high : c ≤ℤ s = lies_high c (only s) t in
          absurd (not_both (int_eq s c) (int_eq_from s c (omega (arith, ints))) (not_true (int_eq s c) h)))
      | inr f ↦ ap not f
    ]

pub certain_only : (r : Relation) (s c : ℤ) → certain_by r (only s) c ≡ is_related r s c
certain_only r s c =
    same_test (certain_by r (only s) c) (is_related r s c) (certain_holds r (only s) c s (lies s (only s) (omega (arith, ints)) (omega (arith, ints)))) (only_certain r s c)

only_ends : (b : Bool) → truth_ends b (not b) ≡ only (number_of b)
only_ends true = refl
only_ends false = refl

-- one number has one truth
pub over_only : (r : Relation) (s c : ℤ) → truth_over r (only s) c ≡ only (number_of (is_related r s c))
over_only r s c =
    ap (λ (b : Bool). truth_ends b (refuted_by r (only s) c)) (certain_only r s c)
    ∙ ap (λ (b : Bool). truth_ends (is_related r s c) b) (refuted_only r s c)
    ∙ only_ends (is_related r s c)

-- ---- how truths change

number_step : (p q : Bool) → (q ≡ true → p ≡ true) → (number_of q -ℤ number_of p) ≤ℤ pos 0
number_step true true f = omega (arith, ints)
number_step true false f = omega (arith, ints)
number_step false true f = absurd (not_both false (f refl) refl)
number_step false false f = omega (arith, ints)

number_fall : (p q : Bool) → (p ≡ true → q ≡ true) → pos 0 ≤ℤ (number_of q -ℤ number_of p)
number_fall true true f = omega (arith, ints)
number_fall true false f = absurd (not_both false (f refl) refl)
number_fall false true f = omega (arith, ints)
number_fall false false f = omega (arith, ints)

number_least : (p q : Bool) → negsuc 0 ≤ℤ (number_of q -ℤ number_of p)
number_least true true = omega (arith, ints)
number_least true false = omega (arith, ints)
number_least false true = omega (arith, ints)
number_least false false = omega (arith, ints)

number_most : (p q : Bool) → (number_of q -ℤ number_of p) ≤ℤ pos 1
number_most true true = omega (arith, ints)
number_most true false = omega (arith, ints)
number_most false true = omega (arith, ints)
number_most false false = omega (arith, ints)

row_low : (change : Ends) (c s t : ℤ) → lies_in (t -ℤ s) change ≡ true
    → (if int_le change.hi (pos 0) then pos 0 else negsuc 0) ≤ℤ (number_of (int_le t c) -ℤ number_of (int_le s c))
row_low change c s t d =
    let step : (b : Bool) → int_le change.hi (pos 0) ≡ b → (if b then pos 0 else negsuc 0) ≤ℤ (number_of (int_le t c) -ℤ number_of (int_le s c)) =
    λ b. elim b as (λ b. int_le change.hi (pos 0) ≡ b → (if b then pos 0 else negsuc 0) ≤ℤ (number_of (int_le t c) -ℤ number_of (int_le s c))) [
      | true ↦ λ e. number_fall (int_le s c) (int_le t c) (λ old. (let falls : change.hi ≤ℤ pos 0 = le_true change.hi (pos 0) e in
          let high : (t -ℤ s) ≤ℤ change.hi = lies_high (t -ℤ s) change d in
          let was : s ≤ℤ c = le_true s c old in
          true_le t c (omega (arith, ints))))
      | false ↦ λ e. number_least (int_le s c) (int_le t c)
    ] in
    step (int_le change.hi (pos 0)) refl

row_high : (change : Ends) (c s t : ℤ) → lies_in (t -ℤ s) change ≡ true
    → (number_of (int_le t c) -ℤ number_of (int_le s c)) ≤ℤ (if int_le (pos 0) change.lo then pos 0 else pos 1)
row_high change c s t d =
    let step : (b : Bool) → int_le (pos 0) change.lo ≡ b → (number_of (int_le t c) -ℤ number_of (int_le s c)) ≤ℤ (if b then pos 0 else pos 1) =
    λ b. elim b as (λ b. int_le (pos 0) change.lo ≡ b → (number_of (int_le t c) -ℤ number_of (int_le s c)) ≤ℤ (if b then pos 0 else pos 1)) [
      | true ↦ λ e. number_step (int_le s c) (int_le t c) (λ new. (let rises : pos 0 ≤ℤ change.lo = le_true (pos 0) change.lo e in
          let low : change.lo ≤ℤ (t -ℤ s) = lies_low (t -ℤ s) change d in
          let is : t ≤ℤ c = le_true t c new in
          true_le s c (omega (arith, ints))))
      | false ↦ λ e. number_most (int_le s c) (int_le t c)
    ] in
    step (int_le (pos 0) change.lo) refl

-- the change of a truth lies in its row
pub row_has : (r : Relation) (change before after : Ends) (c s t : ℤ) → lies_in (t -ℤ s) change ≡ true → lies_in (number_of (is_related r s c)) before ≡ true
    → lies_in (number_of (is_related r t c)) after ≡ true → lies_in (number_of (is_related r t c) -ℤ number_of (is_related r s c)) (truth_row r change before after) ≡ true
row_has AtMost change before after c s t d f g =
    lies (number_of (int_le t c) -ℤ number_of (int_le s c)) (truth_row AtMost change before after) (row_low change c s t d) (row_high change c s t d)
row_has Equal change before after c s t d f g = difference_has (number_of (is_related Equal s c)) (number_of (is_related Equal t c)) before after f g
row_has Differ change before after c s t d f g = difference_has (number_of (is_related Differ s c)) (number_of (is_related Differ t c)) before after f g

pub number_is_truth : (b : Bool) → (pos 0 ≤ℤ number_of b) × (number_of b ≤ℤ pos 1)
number_is_truth true = (omega (arith, ints), omega (arith, ints))
number_is_truth false = (omega (arith, ints), omega (arith, ints))
