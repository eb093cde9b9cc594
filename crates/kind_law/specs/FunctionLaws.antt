-- Laws of outputs that have the value of a function.
use Rattle.std.proofs.Common.{◌≡◌, Bool, true, false, not, ◌&&◌, ◌||◌, ℤ, pos, ◌-ℤ◌, ◌≤ℤ◌, ◌<ℤ◌, int_le, int_lt, ◌∙◌, ap, arith, inl, inr}
use Rattle.std.proofs.lemmas.Int.{ints}
use Rattle.std.specs.Ordering.{int_eq}
use Rattle.dom_core.specs.Ends.{Ends, only, lies_in}
use Rattle.dom_core.specs.declared.view.Movement.{Movement}
use Rattle.dom_core.proofs.TestLaws.{le_true, true_lt, and_first, and_second, neither, not_both, not_true, true_or_false}
use Rattle.dom_core.proofs.EndsLaws.{lies, lies_low, lies_high}
use Rattle.dom_core.proofs.RisesLaws.{same_test, int_eq_same, int_eq_from, or_true, or_left, or_right}
use Rattle.dom_core.proofs.ProductLaws.{lt_true, lt_false}
use Rattle.kind_law.specs.Laws.{EndsIn}
use Rattle.kind_law.specs.Function.{have_none, is_one, are_one, stays_at, truth_kept, function_kept}

not_of : (b : Bool) → b ≡ false → not b ≡ true
not_of b e = ap not e

-- smaller intervals have no more integers in common
pub none_smaller : (a b small_a small_b : Ends) → EndsIn small_a a → EndsIn small_b b → have_none a b ≡ true → have_none small_a small_b ≡ true
none_smaller a b p q f g h =
    let low_a : a.lo ≤ℤ p.lo = f.low in
    let high_a : p.hi ≤ℤ a.hi = f.high in
    let low_b : b.lo ≤ℤ q.lo = g.low in
    let high_b : q.hi ≤ℤ b.hi = g.high in
    elim (or_true (int_lt a.hi b.lo) (int_lt b.hi a.lo) h) [
      | inl under ↦ (let t : a.hi <ℤ b.lo = lt_true a.hi b.lo under in or_left (int_lt p.hi q.lo) (int_lt q.hi p.lo) (true_lt p.hi q.lo (omega (arith, ints))))
      | inr over ↦ (let t : b.hi <ℤ a.lo = lt_true b.hi a.lo over in or_right (int_lt p.hi q.lo) (int_lt q.hi p.lo) (true_lt q.hi p.lo (omega (arith, ints))))
    ]

-- one integer and an interval have none in common exactly where it doesn't lie there
pub none_only : (x : ℤ) (e : Ends) → e.lo ≤ℤ e.hi → have_none (only x) e ≡ not (lies_in x e)
none_only x e order =
    same_test (have_none (only x) e) (not (lies_in x e))
    (λ h. not_of (lies_in x e) (elim (true_or_false (lies_in x e)) [
      | inl t ↦ (let low : e.lo ≤ℤ x = lies_low x e t in
          let high : x ≤ℤ e.hi = lies_high x e t in
          elim (or_true (int_lt x e.lo) (int_lt e.hi x) h) [
            | inl under ↦ (let u : x <ℤ e.lo = lt_true x e.lo under in absurd (omega (arith, ints)))
            | inr over ↦ (let o : e.hi <ℤ x = lt_true e.hi x over in absurd (omega (arith, ints)))
          ])
      | inr f ↦ f
    ]))
    (λ h. elim (true_or_false (have_none (only x) e)) [
      | inl t ↦ t
      | inr f ↦ absurd (not_both (lies_in x e) (lies x e (lt_false x e.lo (neither (int_lt x e.lo) (int_lt e.hi x) f).0) (lt_false e.hi x (neither (int_lt x e.lo) (int_lt e.hi x) f).1)) (not_true (lies_in x e) h))
    ])

-- two integers have none in common exactly where they differ
pub none_points : (x y : ℤ) → have_none (only x) (only y) ≡ not (int_eq y x)
none_points x y =
    none_only x (only y) (omega (arith, ints))
    ∙ ap not (same_test (lies_in x (only y)) (int_eq y x)
    (λ h. (let low : y ≤ℤ x = lies_low x (only y) h in let high : x ≤ℤ y = lies_high x (only y) h in int_eq_from y x (omega (arith, ints))))
    (λ h. (let e : y ≡ x = int_eq_same y x h in lies x (only y) (omega (arith, ints)) (omega (arith, ints)))))

-- ---- kept outputs

one_value : (e : Ends) (x y : ℤ) → is_one e x ≡ true → lies_in y e ≡ true → y ≡ x
one_value e x y o h =
    let a : e.lo ≡ x = int_eq_same e.lo x (and_first (int_eq e.lo x) (int_eq e.hi x) o) in
    let b : e.hi ≡ x = int_eq_same e.hi x (and_second (int_eq e.lo x) (int_eq e.hi x) o) in
    let low : e.lo ≤ℤ y = lies_low y e h in
    let high : y ≤ℤ e.hi = lies_high y e h in
    omega (arith, ints)

same_value : (a b : Ends) (x y : ℤ) → are_one a b ≡ true → lies_in x a ≡ true → lies_in y b ≡ true → y ≡ x
same_value a b x y o h g =
    let single : a.lo ≡ a.hi = int_eq_same a.lo a.hi (and_first (int_eq a.lo a.hi) (is_one b a.lo) o) in
    let e : y ≡ a.lo = one_value b a.lo y (and_second (int_eq a.lo a.hi) (is_one b a.lo) o) g in
    let low : a.lo ≤ℤ x = lies_low x a h in
    let high : x ≤ℤ a.hi = lies_high x a h in
    omega (arith, ints)

-- what lies where two movements allow, of the function and of its output
pub record IsMoved (f y : Movement) (v w p q : ℤ) : Type 0 where
  pub value_after : lies_in w f.after ≡ true
  pub value_change : lies_in (w -ℤ v) f.change ≡ true
  pub output_before : lies_in p y.before ≡ true
  pub output_after : lies_in q y.after ≡ true
  pub output_change : lies_in (q -ℤ p) y.change ≡ true

up_kept : (f y : Movement) (v w p q : ℤ) → IsMoved f y v w p q → w ≤ℤ pos 1 → p ≡ v → (stays_at y (pos 1) && int_le (pos 0) f.change.lo) ≡ true → q ≡ w
up_kept f y v w p q m top same h =
    let stays : stays_at y (pos 1) ≡ true = and_first (stays_at y (pos 1)) (int_le (pos 0) f.change.lo) h in
    let a : p ≡ pos 1 = one_value y.before (pos 1) p (and_first (is_one y.before (pos 1)) (is_one y.after (pos 1)) stays) m.output_before in
    let b : q ≡ pos 1 = one_value y.after (pos 1) q (and_second (is_one y.before (pos 1)) (is_one y.after (pos 1)) stays) m.output_after in
    let rise : pos 0 ≤ℤ f.change.lo = le_true (pos 0) f.change.lo (and_second (stays_at y (pos 1)) (int_le (pos 0) f.change.lo) h) in
    let low : f.change.lo ≤ℤ (w -ℤ v) = lies_low (w -ℤ v) f.change m.value_change in
    omega (arith, ints)

down_kept : (f y : Movement) (v w p q : ℤ) → IsMoved f y v w p q → pos 0 ≤ℤ w → p ≡ v → (stays_at y (pos 0) && int_le f.change.hi (pos 0)) ≡ true → q ≡ w
down_kept f y v w p q m bottom same h =
    let stays : stays_at y (pos 0) ≡ true = and_first (stays_at y (pos 0)) (int_le f.change.hi (pos 0)) h in
    let a : p ≡ pos 0 = one_value y.before (pos 0) p (and_first (is_one y.before (pos 0)) (is_one y.after (pos 0)) stays) m.output_before in
    let b : q ≡ pos 0 = one_value y.after (pos 0) q (and_second (is_one y.before (pos 0)) (is_one y.after (pos 0)) stays) m.output_after in
    let fall : f.change.hi ≤ℤ pos 0 = le_true f.change.hi (pos 0) (and_second (stays_at y (pos 0)) (int_le f.change.hi (pos 0)) h) in
    let high : (w -ℤ v) ≤ℤ f.change.hi = lies_high (w -ℤ v) f.change m.value_change in
    omega (arith, ints)

-- a kept output has the value of the function after, where it has it before
pub function_keeps : (two : Bool) (f y : Movement) (v w p q : ℤ) → IsMoved f y v w p q → (two ≡ true → (pos 0 ≤ℤ w) × (w ≤ℤ pos 1))
    → function_kept two f y ≡ true → int_eq p v ≡ true → int_eq q w ≡ true
function_keeps two f y v w p q m bits h e =
    let same : p ≡ v = int_eq_same p v e in
    elim (or_true (are_one f.change y.change) (are_one f.after y.after || (two && truth_kept f.change y)) h) [
      | inl moved ↦ (let d : (q -ℤ p) ≡ (w -ℤ v) = same_value f.change y.change (w -ℤ v) (q -ℤ p) moved m.value_change m.output_change in int_eq_from q w (omega (arith, ints)))
      | inr others ↦ elim (or_true (are_one f.after y.after) (two && truth_kept f.change y) others) [
        | inl one ↦ int_eq_from q w (same_value f.after y.after w q one m.value_after m.output_after)
        | inr stays ↦ (let b = bits (and_first two (truth_kept f.change y) stays) in elim (or_true (stays_at y (pos 1) && int_le (pos 0) f.change.lo) (stays_at y (pos 0) && int_le f.change.hi (pos 0)) (and_second two (truth_kept f.change y) stays)) [
          | inl up ↦ int_eq_from q w (up_kept f y v w p q m b.1 same up)
          | inr down ↦ int_eq_from q w (down_kept f y v w p q m b.0 same down)
        ])
      ]
    ]
