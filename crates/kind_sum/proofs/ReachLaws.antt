-- How far a variable's end may move before a sum is refuted.
use Rattle.std.proofs.Common.{◌≡◌, ℕ, zero, suc, ◌-◌, ◌*◌, ◌/◌, ◌<◌, ◌≤◌, Bool, true, false, not, ◌&&◌, nat_lt, ℤ, pos, ◌+ℤ◌, ◌-ℤ◌, ◌≤ℤ◌, int_le, Option, Some, None, ◌⊎◌, inl, inr, refl, sym, ◌∙◌, ap, subst, arith}
use Rattle.std.proofs.lemmas.Int.{ints}
use Rattle.std.proofs.Math.Nat.{div-lt_iff_lt-mul, mul_comm, mul-lt-mul_of_pos_left, mul-le-mul_left}
use Rattle.std.specs.Ordering.{int_eq}
use Rattle.dom_core.specs.Ends.{Ends, IsOrdered, lies_in}
use Rattle.dom_core.proofs.RisesLaws.{int_eq_same, int_eq_from}
use Rattle.dom_core.proofs.TestLaws.{le_true, true_le, false_le, and_first, and_second, and_both, true_or_false, not_both}
use Rattle.kind_sum.specs.Reach.{moved_ends, pulled_ends, is_pulled_off, room_of}
use Rattle.kind_law.specs.Steps.{IsStepReach}
use Rattle.kind_parts.specs.Relation.{refuted_by, is_only_value}
use Rattle.kind_sum.specs.declared.reach.Pull.{Pull}
use Rattle.dom_core.specs.declared.relation.Relation.TheVariants.{Equal, Differ}

-- ---- tests of natural numbers

pub less_or_not : (m n : ℕ) → (m < n) ⊎ (n ≤ m)
less_or_not m n = grind arith

pub true_lt : (m n : ℕ) → m < n → nat_lt m n ≡ true
true_lt m n h = grind arith

pub false_lt : (m n : ℕ) → n ≤ m → nat_lt m n ≡ false
false_lt m n h = grind arith

same_lt : (a b c d : ℕ) → (a < b → c < d) → (c < d → a < b) → nat_lt a b ≡ nat_lt c d
same_lt a b c d f g =
    elim (less_or_not a b) [
      | inl lt ↦ true_lt a b lt ∙ sym (true_lt c d (f lt))
      | inr le ↦ elim (less_or_not c d) [
        | inl lt ↦ (let h : a < b = g lt in absurd (omega arith))
        | inr more ↦ false_lt a b le ∙ sym (false_lt c d more)
      ]
    ]

-- ---- steps that go into a room

some_size : (room size steps : ℕ) → room < size * steps → 0 < size
some_size room zero steps h = absurd (omega arith)
some_size room (suc n) steps h = omega arith

pub steps_fit : (room size steps : ℕ) → room < size * steps
    → (room / size < steps) × ((m : ℕ) → m ≤ steps → nat_lt room (size * m) ≡ nat_lt (room / size) m)
steps_fit room size steps h =
    let some : 0 < size = some_size room size steps h in (
      (div-lt_iff_lt-mul some).1 (subst (λ (n : ℕ). room < n) (mul_comm size steps) h),
      λ m le. same_lt room (size * m) (room / size) m
          (λ g. (div-lt_iff_lt-mul some).1 (subst (λ (n : ℕ). room < n) (mul_comm size m) g))
          (λ g. subst (λ (n : ℕ). room < n) (mul_comm m size) ((div-lt_iff_lt-mul some).0 g)),
    )

pub none_fits : (room size steps : ℕ) → size * steps ≤ room → (m : ℕ) → m ≤ steps → nat_lt room (size * m) ≡ false
none_fits room size steps h m le =
    let k : size * m ≤ size * steps = mul-le-mul_left size le in
    false_lt room (size * m) (omega arith)

pub reach_same : (f g : ℕ → Bool) (steps : ℕ) (r : Option ℕ) → ((m : ℕ) → f m ≡ g m) → IsStepReach g steps r → IsStepReach f steps r
reach_same f g steps None e h = λ m le. e m ∙ h m le
reach_same f g steps (Some n) e h = (h.0, λ m le. e m ∙ h.1 m le)

-- ---- a sum that is to be equal

in_bound : (t : Ends) (c : ℤ) → not (lies_in c t) ≡ false → (t.lo ≤ℤ c) × (c ≤ℤ t.hi)
in_bound t c h =
    elim (true_or_false (lies_in c t)) [
      | inl e ↦ (le_true t.lo c (and_first (int_le t.lo c) (int_le c t.hi) e), le_true c t.hi (and_second (int_le t.lo c) (int_le c t.hi) e))
      | inr e ↦ absurd (not_both (not (lies_in c t)) (ap not e) h)
    ]

first_fails : (a b : Bool) → a ≡ false → not (a && b) ≡ true
first_fails true b h = absurd (cc)
first_fails false b h = refl

second_fails : (a b : Bool) → b ≡ false → not (a && b) ≡ true
second_fails true b h = ap not h
second_fails false b h = refl

pub value_moves : (rises : Bool) (t : Ends) (c : ℤ) (room n : ℕ) → pos room ≡ room_of rises t c → refuted_by Equal t c ≡ false
    → refuted_by Equal (moved_ends rises t n) c ≡ nat_lt room n
value_moves true t c room n e h =
    let ends = in_bound t c h in
    let low : t.lo ≤ℤ c = ends.0 in
    let high : c ≤ℤ t.hi = ends.1 in
    elim (less_or_not room n) [
      | inl lt ↦ first_fails (int_le (t.lo +ℤ pos n) c) (int_le c t.hi) (false_le (t.lo +ℤ pos n) c (omega (arith, ints))) ∙ sym (true_lt room n lt)
      | inr le ↦ ap not (and_both (int_le (t.lo +ℤ pos n) c) (int_le c t.hi) (true_le (t.lo +ℤ pos n) c (omega (arith, ints))) (true_le c t.hi high)) ∙ sym (false_lt room n le)
    ]
value_moves false t c room n e h =
    let ends = in_bound t c h in
    let low : t.lo ≤ℤ c = ends.0 in
    let high : c ≤ℤ t.hi = ends.1 in
    elim (less_or_not room n) [
      | inl lt ↦ second_fails (int_le t.lo c) (int_le c (t.hi -ℤ pos n)) (false_le c (t.hi -ℤ pos n) (omega (arith, ints))) ∙ sym (true_lt room n lt)
      | inr le ↦ ap not (and_both (int_le t.lo c) (int_le c (t.hi -ℤ pos n)) (true_le t.lo c low) (true_le c (t.hi -ℤ pos n) (omega (arith, ints)))) ∙ sym (false_lt room n le)
    ]

pub value_reaches : (t : Ends) (c : ℤ) (p : Pull) (room : ℕ) (r : Option ℕ) → pos room ≡ room_of p.rises t c → refuted_by Equal t c ≡ false
    → IsStepReach (λ m. nat_lt room (p.size * m)) p.steps r → IsStepReach (is_pulled_off Equal t c p) p.steps r
value_reaches t c p room r e h reach =
    reach_same (is_pulled_off Equal t c p) (λ m. nat_lt room (p.size * m)) p.steps r (λ m. value_moves p.rises t c room (p.size * m) e h) reach

-- ---- a sum that is to differ

only_low : (e : Ends) (x : ℤ) → is_only_value e x ≡ true → e.lo ≡ x
only_low e x h = int_eq_same e.lo x (and_first (int_eq e.lo x) (int_eq e.hi x) h)

only_high : (e : Ends) (x : ℤ) → is_only_value e x ≡ true → e.hi ≡ x
only_high e x h = int_eq_same e.hi x (and_second (int_eq e.lo x) (int_eq e.hi x) h)

only_from : (e : Ends) (x : ℤ) → e.lo ≡ x → e.hi ≡ x → is_only_value e x ≡ true
only_from e x low high = and_both (int_eq e.lo x) (int_eq e.hi x) (int_eq_from e.lo x low) (int_eq_from e.hi x high)

-- how far a sum moves to the one number
moves_across : (rises : Bool) (t : Ends) (n : ℕ) (x : ℤ) → is_only_value (moved_ends rises t n) x ≡ true → (t.lo +ℤ pos n) ≡ t.hi
moves_across true t n x h =
    let low : (t.lo +ℤ pos n) ≡ x = only_low (moved_ends true t n) x h in
    let high : t.hi ≡ x = only_high (moved_ends true t n) x h in
    omega (arith, ints)
moves_across false t n x h =
    let low : t.lo ≡ x = only_low (moved_ends false t n) x h in
    let high : (t.hi -ℤ pos n) ≡ x = only_high (moved_ends false t n) x h in
    omega (arith, ints)

unmoved : (rises : Bool) (t : Ends) (n : ℕ) (x : ℤ) → n ≡ 0 → is_only_value (moved_ends rises t n) x ≡ true → is_only_value t x ≡ true
unmoved true t n x e h =
    let low : (t.lo +ℤ pos n) ≡ x = only_low (moved_ends true t n) x h in
    let high : t.hi ≡ x = only_high (moved_ends true t n) x h in
    only_from t x (omega (arith, ints)) high
unmoved false t n x e h =
    let low : t.lo ≡ x = only_low (moved_ends false t n) x h in
    let high : (t.hi -ℤ pos n) ≡ x = only_high (moved_ends false t n) x h in
    only_from t x low (omega (arith, ints))

room_left : (rises : Bool) (t : Ends) (n : ℕ) → IsOrdered (moved_ends rises t n) → (t.lo +ℤ pos n) ≤ℤ t.hi
room_left true t n h = h
room_left false t n h = omega (arith, ints)

same_way : (t : Ends) (m n : ℕ) → (t.lo +ℤ pos m) ≡ t.hi → (t.lo +ℤ pos n) ≡ t.hi → m ≡ n
same_way t m n e f = omega (arith, ints)

no_shorter : (t : Ends) (m n : ℕ) → (t.lo +ℤ pos m) ≡ t.hi → (t.lo +ℤ pos n) ≤ℤ t.hi → m ≤ n → m ≡ n
no_shorter t m n e f h = omega (arith, ints)

same_product : (size m n : ℕ) → size * m ≡ size * n → m < n → size * n ≡ 0
same_product zero m n e h = omega arith
same_product (suc s) m n e h = let k : suc s * m < suc s * n = mul-lt-mul_of_pos_left h (omega arith) in absurd (omega arith)

nothing : (size steps : ℕ) → steps ≤ 0 → size * steps ≡ 0
nothing size zero h = omega arith
nothing size (suc n) h = absurd (omega arith)

module _ (t : Ends) (x : ℤ) (p : Pull) where
  pub last_step : is_only_value t x ≡ false → is_only_value (pulled_ends p t p.steps) x ≡ true → IsStepReach (is_pulled_off Differ t x p) p.steps (Some (p.steps - 1))
  last_step quiet h =
      let across : (t.lo +ℤ pos (p.size * p.steps)) ≡ t.hi = moves_across p.rises t (p.size * p.steps) x h in
      let some : 0 < p.steps = elim (less_or_not 0 p.steps) [
        | inl lt ↦ lt
        | inr le ↦ absurd (not_both (is_only_value t x) (unmoved p.rises t (p.size * p.steps) x (nothing p.size p.steps le) h) quiet)
      ] in (
        omega arith,
        λ m le. elim (less_or_not m p.steps) [
          | inl lt ↦ elim (true_or_false (is_only_value (pulled_ends p t m) x)) [
            | inl e ↦ absurd (not_both (is_only_value t x) (unmoved p.rises t (p.size * p.steps) x
                (same_product p.size m p.steps (same_way t (p.size * m) (p.size * p.steps) (moves_across p.rises t (p.size * m) x e) across) lt) h) quiet)
            | inr e ↦ e ∙ sym (false_lt (p.steps - 1) m (omega arith))
          ]
          | inr more ↦ (let same : m ≡ p.steps = omega arith in
              subst (λ (n : ℕ). is_only_value (pulled_ends p t n) x ≡ true) (sym same) h ∙ sym (true_lt (p.steps - 1) m (omega arith)))
        ],
      )

  pub no_step : IsOrdered (pulled_ends p t p.steps) → is_only_value (pulled_ends p t p.steps) x ≡ false → IsStepReach (is_pulled_off Differ t x p) p.steps None
  no_step order h = λ m le. elim (true_or_false (is_only_value (pulled_ends p t m) x)) [
    | inl e ↦ absurd (not_both (is_only_value (pulled_ends p t p.steps) x)
        (subst (λ (n : ℕ). is_only_value (moved_ends p.rises t n) x ≡ true)
        (no_shorter t (p.size * m) (p.size * p.steps) (moves_across p.rises t (p.size * m) x e) (room_left p.rises t (p.size * p.steps) order) (mul-le-mul_left p.size le)) e) h)
    | inr e ↦ e
  ]
