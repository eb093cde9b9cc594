-- What the declaration of a variable allows, as a list, a set and a hull.
use Rattle.std.proofs.Common.{◌≡◌, ◌↔◌, ◌&&◌, ◌<◌, Bool, true, List, [], ◌∷◌, length, ℤ, pos, ◌<ℤ◌, ◌≤ℤ◌, int_le, int_lt, refl, sym, ◌∙◌, ap, subst, arith, ◌⊎◌, inl, inr, Some, zero, suc, slice_get, ℕ}
use Rattle.std.proofs.lemmas.Int.{ints, clamps}
use Rattle.std.proofs.lemmas.Option.{same_Some}
use Rattle.std.specs.Int.{int_max, int_min}
use Rattle.dom_core.specs.Assignment.{entry_at}
use Rattle.dom_core.specs.Ends.{Ends, only, hull_ends}
use Rattle.dom_core.specs.Rises.{Rises, first_of, is_among, last_of, range_of}
use Rattle.dom_core.specs.declared.set.Set.{Set}
use Rattle.dom_core.specs.declared.set.Set.TheVariants as sets
use Rattle.dom_core.proofs.ProductLaws.{lt_false, lt_true}
use Rattle.dom_core.proofs.RisesLaws.{among_cases, among_head, among_tail, first_among, first_least, last_among, last_greatest, range-among, range-first, range-last, some_among}
use Rattle.dom_core.proofs.TestLaws.{true_or_false}
use Rattle.dom_definers.specs.Variable.{declared_hull, form_hull, range_hull, widened}
use Rattle.dom_definers.specs.declared.form.Declared.{Declared}
use Rattle.dom_definers.specs.declared.form.Declared.TheVariants.{Any, Range, Values}
use Rattle.dom_definers.specs.declared.form.Form.{Form}
use Rattle.dom_definers.specs.declared.form.Form.TheVariants.{Bool as Truths, Int}
use Rattle.dom_definers.specs.declared.variable.Variable.{Variable}
use Rattle.dom_domains.specs.Allowed.{Allows, AllowsForm, EachAllowed, IsBetween, form_values, rising, values_of}
use Rattle.dom_domains.specs.Faults.{IsOpen}
use Rattle.dom_domains.specs.Restrictions.{form_set, set_of}
use Rattle.dom_domains.proofs.FreeLaws.{chosen}
use Rattle.dom_domains.proofs.RisingLaws.{range_none, rising-among, rising_rises}
use Rattle.kind_parts.specs.Set.{set_has}
use Rattle.kind_parts.proofs.SetLaws.{between, from_low, to_high}

-- ---- the list

between_range : (lo hi x : ℤ) → IsBetween lo hi x ↔ (is_among x (range_of lo hi) ≡ true)
between_range lo hi x = (
  (λ h. range-among lo hi x ∙ between lo x hi h.0 h.1),
  (λ t. (let both : (int_le lo x && int_le x hi) ≡ true = sym (range-among lo hi x) ∙ t in (from_low lo x hi both, to_high lo x hi both))),
)

form_allows : (f : Form) (d : Declared) (x : ℤ) → (IsOpen f d → ⊥) → AllowsForm f d x ↔ (is_among x (form_values f d) ≡ true)
form_allows Truths d x closed = between_range (pos 0) (pos 1) x
form_allows Int Any x closed = absurd (closed tt)
form_allows Int (Range lo hi) x closed = between_range lo hi x
form_allows Int (Values vs) x closed = ((λ h. rising-among x vs ∙ h), (λ t. sym (rising-among x vs) ∙ t))

-- a value is allowed exactly where it is one of the variable's values
pub allowed_listed : (v : Variable) (x : ℤ) → (IsOpen v.form v.declared → ⊥) → Allows v x ↔ (is_among x (values_of v) ≡ true)
allowed_listed v x closed = form_allows v.form v.declared x closed

-- ---- one value for each variable

pub allowed_length : (vs : List Variable) (a : List ℤ) → EachAllowed vs a → length a ≡ length vs
allowed_length [] [] h = refl
allowed_length [] (x ∷ xs) h = absurd h
allowed_length (v ∷ vs) [] h = absurd h
allowed_length (v ∷ vs) (x ∷ xs) h = ap suc (allowed_length vs xs h.1)

allowed_at : (vs : List Variable) (a : List ℤ) (n : ℕ) (v : Variable) → EachAllowed vs a → slice_get vs n ≡ Some v → Allows v (entry_at a n)
allowed_at [] a n v h g = absurd (cc)
allowed_at (w ∷ vs) [] n v h g = absurd h
allowed_at (w ∷ vs) (x ∷ xs) zero v h g = subst (λ (u : Variable). Allows u x) (same_Some w v g) h.0
allowed_at (w ∷ vs) (x ∷ xs) (suc n) v h g = allowed_at vs xs n v h.1 g

each_allowed : (vs : List Variable) (a : List ℤ) → length a ≡ length vs → ((n : ℕ) (v : Variable) → slice_get vs n ≡ Some v → Allows v (entry_at a n)) → EachAllowed vs a
each_allowed [] [] e h = tt
each_allowed [] (x ∷ xs) e h = absurd (omega (arith, e))
each_allowed (v ∷ vs) [] e h = absurd (omega (arith, e))
each_allowed (v ∷ vs) (x ∷ xs) e h = (h 0 v refl, each_allowed vs xs (omega (arith, e)) (λ n w g. h (suc n) w g))

-- an assignment is allowed where it has a value for each variable, and each is allowed
pub allowed_places : (vs : List Variable) (a : List ℤ)
    → EachAllowed vs a ↔ ((length a ≡ length vs) × ((n : ℕ) (v : Variable) → slice_get vs n ≡ Some v → Allows v (entry_at a n)))
allowed_places vs a = ((λ h. (allowed_length vs a h, (λ n v g. allowed_at vs a n v h g))), (λ p. each_allowed vs a p.0 p.1))

-- ---- the set

between_set : (lo hi x : ℤ) → (set_has (sets.Range lo hi) x ≡ true) ↔ IsBetween lo hi x
between_set lo hi x = ((λ t. (from_low lo x hi t, to_high lo x hi t)), (λ h. between lo x hi h.0 h.1))

set_allows : (f : Form) (d : Declared) (s : Set) (x : ℤ) → form_set f d ≡ Some s → (set_has s x ≡ true) ↔ AllowsForm f d x
set_allows Truths d s x e = subst (λ (t : Set). (set_has t x ≡ true) ↔ IsBetween (pos 0) (pos 1) x) (same_Some (sets.Range (pos 0) (pos 1)) s e) (between_set (pos 0) (pos 1) x)
set_allows Int Any s x e = absurd (cc)
set_allows Int (Range lo hi) s x e = subst (λ (t : Set). (set_has t x ≡ true) ↔ IsBetween lo hi x) (same_Some (sets.Range lo hi) s e) (between_set lo hi x)
set_allows Int (Values vs) s x e =
    subst (λ (t : Set). (set_has t x ≡ true) ↔ (is_among x vs ≡ true)) (same_Some (sets.Values (rising vs)) s e)
    ((λ t. sym (rising-among x vs) ∙ t), (λ h. rising-among x vs ∙ h))

-- a value lies in the variable's set exactly where it is allowed
pub set_allowed : (v : Variable) (s : Set) (x : ℤ) → set_of v ≡ Some s → (set_has s x ≡ true) ↔ Allows v x
set_allowed v s x e = set_allows v.form v.declared s x e

-- ---- the hull

-- the ends are the least and the greatest of those of which this holds
record IsHullOf (P : ℤ → Type 0) (e : Ends) : Type 0 where
  has_lo : P e.lo
  has_hi : P e.hi
  least : (x : ℤ) → P x → e.lo ≤ℤ x
  greatest : (x : ℤ) → P x → x ≤ℤ e.hi

same_ends : (P : ℤ → Type 0) (a b : Ends) → IsHullOf P a → IsHullOf P b → a ≡ b
same_ends P a b h g =
    let lo_down : a.lo ≤ℤ b.lo = h.least b.lo g.has_lo in
    let lo_up : b.lo ≤ℤ a.lo = g.least a.lo h.has_lo in
    let hi_up : b.hi ≤ℤ a.hi = h.greatest b.hi g.has_hi in
    let hi_down : a.hi ≤ℤ b.hi = g.greatest a.hi h.has_hi in
    let lo : a.lo ≡ b.lo = omega (arith, ints) in
    let hi : a.hi ≡ b.hi = omega (arith, ints) in
    ap (λ (z : ℤ). (record { lo = z; hi = a.hi })) lo ∙ ap (λ (z : ℤ). (record { lo = b.lo; hi = z })) hi

only_hull : (x : ℤ) → IsHullOf (λ z. is_among z (x ∷ []) ≡ true) (only x)
only_hull x = record {
  has_lo = among_head x [];
  has_hi = among_head x [];
  least = λ z t. first_least (x ∷ []) z ((λ y u. absurd (cc)), tt) t;
  greatest = λ z t. last_greatest (x ∷ []) z ((λ y u. absurd (cc)), tt) t;
}

min_is : (a b : ℤ) → (int_min a b ≡ a) ⊎ (int_min a b ≡ b)
min_is a b = elim (true_or_false (int_le a b)) [ inl e ↦ inl (grind (arith, ints, clamps)) | inr e ↦ inr (grind (arith, ints, clamps)) ]

max_is : (a b : ℤ) → (int_max a b ≡ a) ⊎ (int_max a b ≡ b)
max_is a b = elim (true_or_false (int_le a b)) [ inl e ↦ inr (grind (arith, ints, clamps)) | inr e ↦ inl (grind (arith, ints, clamps)) ]

min_first : (a b x : ℤ) → a ≤ℤ x → int_min a b ≤ℤ x
min_first a b x h = grind (arith, ints, clamps)

min_second : (a b x : ℤ) → b ≤ℤ x → int_min a b ≤ℤ x
min_second a b x h = grind (arith, ints, clamps)

max_first : (a b x : ℤ) → x ≤ℤ a → x ≤ℤ int_max a b
max_first a b x h = grind (arith, ints, clamps)

max_second : (a b x : ℤ) → x ≤ℤ b → x ≤ℤ int_max a b
max_second a b x h = grind (arith, ints, clamps)

same_low : (x y : ℤ) → x ≡ y → y ≤ℤ x
same_low x y e = omega (arith, ints)

same_high : (x y : ℤ) → x ≡ y → x ≤ℤ y
same_high x y e = omega (arith, ints)

one_more : (P : ℤ → Type 0) (e : Ends) (y : ℤ) → IsHullOf P e → IsHullOf (λ z. P z ⊎ (z ≡ y)) (hull_ends e (only y))
one_more P e y h = record {
  has_lo = elim (min_is e.lo y) [ inl same ↦ inl (subst P (sym same) h.has_lo) | inr same ↦ inr same ];
  has_hi = elim (max_is e.hi y) [ inl same ↦ inl (subst P (sym same) h.has_hi) | inr same ↦ inr same ];
  least = λ z p. elim p [ inl old ↦ min_first e.lo y z (h.least z old) | inr same ↦ min_second e.lo y z (same_low z y same) ];
  greatest = λ z p. elim p [ inl old ↦ max_first e.hi y z (h.greatest z old) | inr same ↦ max_second e.hi y z (same_high z y same) ];
}

widened_hull : (xs : List ℤ) (P Q : ℤ → Type 0) (e : Ends) → IsHullOf P e → ((z : ℤ) → Q z → P z ⊎ (is_among z xs ≡ true)) → ((z : ℤ) → P z → Q z) → ((z : ℤ) → is_among z xs ≡ true → Q z)
    → IsHullOf Q (widened e xs)
widened_hull [] P Q e h cases old new = record {
  has_lo = old e.lo h.has_lo;
  has_hi = old e.hi h.has_hi;
  least = λ z q. elim (cases z q) [ inl p ↦ h.least z p | inr t ↦ absurd (cc) ];
  greatest = λ z q. elim (cases z q) [ inl p ↦ h.greatest z p | inr t ↦ absurd (cc) ];
}
widened_hull (y ∷ ys) P Q e h cases old new =
    widened_hull ys (λ z. P z ⊎ (z ≡ y)) Q (hull_ends e (only y)) (one_more P e y h)
    (λ z q. elim (cases z q) [
      | inl p ↦ inl (inl p)
      | inr t ↦ elim (among_cases z y ys t) [ inl same ↦ inl (inr same) | inr later ↦ inr later ]
    ])
    (λ z p. elim p [ inl before ↦ old z before | inr same ↦ new z (subst (λ (w : ℤ). is_among w (y ∷ ys) ≡ true) (sym same) (among_head y ys)) ])
    (λ z t. new z (among_tail z y ys t))

listed_hull : (x : ℤ) (xs : List ℤ) → widened (only x) xs ≡ record { lo = first_of (rising (x ∷ xs)); hi = last_of (rising (x ∷ xs)) }
listed_hull x xs =
    let some : 0 < length (rising (x ∷ xs)) = some_among x (rising (x ∷ xs)) (rising-among x (x ∷ xs) ∙ among_head x xs) in
    let r : Rises (rising (x ∷ xs)) = rising_rises (x ∷ xs) in
    same_ends (λ z. is_among z (x ∷ xs) ≡ true) (widened (only x) xs) (record { lo = first_of (rising (x ∷ xs)); hi = last_of (rising (x ∷ xs)) })
    (widened_hull xs (λ z. is_among z (x ∷ []) ≡ true) (λ z. is_among z (x ∷ xs) ≡ true) (only x) (only_hull x)
    (λ z t. elim (among_cases z x xs t) [ inl same ↦ inl (subst (λ (w : ℤ). is_among w (x ∷ []) ≡ true) (sym same) (among_head x [])) | inr later ↦ inr later ])
    (λ z t. elim (among_cases z x [] t) [ inl same ↦ subst (λ (w : ℤ). is_among w (x ∷ xs) ≡ true) (sym same) (among_head x xs) | inr none ↦ absurd (cc) ])
    (λ z t. among_tail z x xs t))
    (record {
      has_lo = sym (rising-among (first_of (rising (x ∷ xs))) (x ∷ xs)) ∙ first_among (rising (x ∷ xs)) some;
      has_hi = sym (rising-among (last_of (rising (x ∷ xs))) (x ∷ xs)) ∙ last_among (rising (x ∷ xs)) some;
      least = λ z t. first_least (rising (x ∷ xs)) z r (rising-among z (x ∷ xs) ∙ t);
      greatest = λ z t. last_greatest (rising (x ∷ xs)) z r (rising-among z (x ∷ xs) ∙ t);
    })

range_ends_hull : (lo hi : ℤ) → lo ≤ℤ hi → range_hull lo hi ≡ Some (record { lo = first_of (range_of lo hi); hi = last_of (range_of lo hi) })
range_ends_hull lo hi h = elim (true_or_false (int_lt hi lo)) [
  | inl e ↦ absurd (let up : hi <ℤ lo = lt_true hi lo e in omega (arith, ints))
  | inr e ↦ ap (λ (b : Bool). chosen lo hi b) e
      ∙ ap (λ (z : ℤ). Some (record { lo = z; hi = hi })) (sym (range-first lo hi h))
      ∙ ap (λ (z : ℤ). Some (record { lo = first_of (range_of lo hi); hi = z })) (sym (range-last lo hi h))
]

range_some : (lo hi : ℤ) → (range_of lo hi ≡ [] → ⊥) → lo ≤ℤ hi
range_some lo hi some = elim (true_or_false (int_lt hi lo)) [
  | inl e ↦ absurd (some (range_none lo hi (lt_true hi lo e)))
  | inr e ↦ lt_false hi lo e
]

form_ends : (f : Form) (d : Declared) → (form_values f d ≡ [] → ⊥) → form_hull f d ≡ Some (record { lo = first_of (form_values f d); hi = last_of (form_values f d) })
form_ends Truths d some = refl
form_ends Int Any some = absurd (some refl)
form_ends Int (Range lo hi) some = range_ends_hull lo hi (range_some lo hi some)
form_ends Int (Values []) some = absurd (some refl)
form_ends Int (Values (x ∷ xs)) some = ap Some (listed_hull x xs)

-- the hull of a declaration with a value goes from the first to the last
pub hull_of_values : (v : Variable) → (values_of v ≡ [] → ⊥) → declared_hull v ≡ Some (record { lo = first_of (values_of v); hi = last_of (values_of v) })
hull_of_values v some = form_ends v.form v.declared some
