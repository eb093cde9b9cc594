-- Sums with one term picked out.
use Rattle.dom_core.proofs.EndsLaws.{lies_low, lies_high, lies, same_ends}
use Rattle.std.proofs.Common.{◌≡◌, ℕ, ◌+◌, true, List, [], ◌∷◌, ◌++◌, ℤ, pos, negsuc, ◌+ℤ◌, ◌-ℤ◌, ◌*ℤ◌, ◌≤ℤ◌, refl, ◌∙◌, ap, arith}
use Rattle.std.proofs.Math.IntN.{zero-*ℤ}
use Rattle.std.proofs.lemmas.Int.{ints}
use Rattle.dom_core.specs.Assignment.{entry_at}
use Rattle.dom_core.specs.Ends.{Ends, lies_in, sum_ends, scaled_ends, size_of}
use Rattle.dom_core.specs.declared.arg.Arg.{Arg}
use Rattle.dom_core.specs.declared.arg.Arg.TheVariants.{Var, Const}
use Rattle.dom_core.specs.declared.var_id.VarId.{VarId}
use Rattle.dom_core.proofs.ProductLaws.{scaled_has, neg_one-times, pos_suc-times}
use Rattle.kind_law.specs.Laws.{Each}
use Rattle.kind_law.specs.Argument.{arg_ends, arg_value, ArgHas}
use Rattle.kind_law.proofs.ArgumentLaws.{join_arg}
use Rattle.kind_law.proofs.ValueLaws.{arg_lies, arg_same}
use Rattle.kind_sum.specs.Sum.{total, sum_at, magnitude, vars_of}
use Rattle.kind_sum.specs.SumLaws.{arg_has}
use Rattle.kind_sum.specs.declared.term.Term.{Term}

-- ---- one term among others

swapped : (a b c : Ends) → sum_ends a (sum_ends b c) ≡ sum_ends b (sum_ends a c)
swapped a b c = same_ends (sum_ends a (sum_ends b c)) (sum_ends b (sum_ends a c)) (omega (arith, ints)) (omega (arith, ints))

pub total-insert : (front back : List Term) (t : Term) (f : Arg → Ends)
    → total (front ++ t ∷ back) f ≡ sum_ends (scaled_ends t.coef (f t.arg)) (total (front ++ back) f)
total-insert [] back t f = refl
total-insert (s ∷ front) back t f =
    ap (sum_ends (scaled_ends s.coef (f s.arg))) (total-insert front back t f)
    ∙ swapped (scaled_ends s.coef (f s.arg)) (scaled_ends t.coef (f t.arg)) (total (front ++ back) f)

swapped_sum : (a b c : ℤ) → (a +ℤ (b +ℤ c)) ≡ (b +ℤ (a +ℤ c))
swapped_sum a b c = omega (arith, ints)

pub sum_at-insert : (front back : List Term) (t : Term) (a : List ℤ)
    → sum_at (front ++ t ∷ back) a ≡ ((t.coef *ℤ arg_value a t.arg) +ℤ sum_at (front ++ back) a)
sum_at-insert [] back t a = refl
sum_at-insert (s ∷ front) back t a =
    ap (λ (x : ℤ). (s.coef *ℤ arg_value a s.arg) +ℤ x) (sum_at-insert front back t a)
    ∙ swapped_sum (s.coef *ℤ arg_value a s.arg) (t.coef *ℤ arg_value a t.arg) (sum_at (front ++ back) a)

swapped_size : (a b c : ℕ) → a + (b + c) ≡ b + (a + c)
swapped_size a b c = omega arith

pub magnitude-insert : (front back : List Term) (t : Term) (f : Arg → Ends)
    → magnitude (front ++ t ∷ back) f ≡ size_of (scaled_ends t.coef (f t.arg)) + magnitude (front ++ back) f
magnitude-insert [] back t f = refl
magnitude-insert (s ∷ front) back t f =
    ap (λ (n : ℕ). size_of (scaled_ends s.coef (f s.arg)) + n) (magnitude-insert front back t f)
    ∙ swapped_size (size_of (scaled_ends s.coef (f s.arg))) (size_of (scaled_ends t.coef (f t.arg))) (magnitude (front ++ back) f)

-- what holds of all variables holds of the picked term's and of the others'
pub each-insert : (P : VarId → Type 0) (front back : List Term) (t : Term) → Each P (vars_of (front ++ t ∷ back))
    → ArgHas P t.arg × Each P (vars_of (front ++ back))
each-insert P [] back t h = arg_has P t back h
each-insert P (s ∷ front) back t h =
    let both = arg_has P s (front ++ t ∷ back) h in
    let rest = each-insert P front back t both.1 in
    (rest.0, join_arg P s.arg (vars_of (front ++ back)) both.0 rest.1)

-- ---- a coefficient of 1 or -1

pub one_times : (x : ℤ) → (pos 1 *ℤ x) ≡ x
one_times x =
    let e : (pos 1 *ℤ x) ≡ ((pos 0 *ℤ x) +ℤ x) = pos_suc-times 0 x in
    let z : (pos 0 *ℤ x) ≡ pos 0 = zero-*ℤ x in
    omega (arith, ints)

pub one_scaled : (e : Ends) → scaled_ends (pos 1) e ≡ e
one_scaled e = same_ends (scaled_ends (pos 1) e) e (one_times e.lo) (one_times e.hi)

pub minus_scaled : (e : Ends) → scaled_ends (negsuc 0) e ≡ record { lo = pos 0 -ℤ e.hi; hi = pos 0 -ℤ e.lo }
minus_scaled e = same_ends (scaled_ends (negsuc 0) e) (record { lo = pos 0 -ℤ e.hi; hi = pos 0 -ℤ e.lo }) (neg_one-times e.hi) (neg_one-times e.lo)

-- ---- sums within intervals

-- the sum lies where the variables' values lie in their intervals
pub sum_lies : (ts : List Term) (s : ℕ → Ends) (a : List ℤ) → Each (λ u. lies_in (entry_at a u.0) (s u.0) ≡ true) (vars_of ts)
    → lies_in (sum_at ts a) (total ts (arg_ends s)) ≡ true
sum_lies [] s a h = refl
sum_lies (t ∷ ts) s a h =
    let both = arg_has (λ u. lies_in (entry_at a u.0) (s u.0) ≡ true) t ts h in
    let here : lies_in (arg_value a t.arg) (arg_ends s t.arg) ≡ true = arg_lies s a t.arg both.0 in
    let part = scaled_has t.coef (arg_ends s t.arg) (arg_value a t.arg) (lies_low (arg_value a t.arg) (arg_ends s t.arg) here) (lies_high (arg_value a t.arg) (arg_ends s t.arg) here) in
    let rest : lies_in (sum_at ts a) (total ts (arg_ends s)) ≡ true = sum_lies ts s a both.1 in
    let low : (total ts (arg_ends s)).lo ≤ℤ sum_at ts a = lies_low (sum_at ts a) (total ts (arg_ends s)) rest in
    let high : sum_at ts a ≤ℤ (total ts (arg_ends s)).hi = lies_high (sum_at ts a) (total ts (arg_ends s)) rest in
    lies (sum_at (t ∷ ts) a) (total (t ∷ ts) (arg_ends s)) (omega (arith, ints, part.0)) (omega (arith, ints, part.1))

-- the sum reads its variables alone
pub sum_same : (ts : List Term) (a b : List ℤ) → Each (λ u. entry_at a u.0 ≡ entry_at b u.0) (vars_of ts) → sum_at ts a ≡ sum_at ts b
sum_same [] a b h = refl
sum_same (t ∷ ts) a b h =
    let both = arg_has (λ u. entry_at a u.0 ≡ entry_at b u.0) t ts h in
    ap (λ (x : ℤ). (t.coef *ℤ x) +ℤ sum_at ts a) (arg_same a b t.arg both.0)
    ∙ ap (λ (x : ℤ). (t.coef *ℤ arg_value b t.arg) +ℤ x) (sum_same ts a b both.1)

arg_span_same : (s r : ℕ → Ends) (x : Arg) → ArgHas (λ u. s u.0 ≡ r u.0) x → arg_ends s x ≡ arg_ends r x
arg_span_same s r (Var x) h = h
arg_span_same s r (Const c) h = refl

-- the same intervals of its variables give the same sum
pub total_same : (ts : List Term) (s r : ℕ → Ends) → Each (λ u. s u.0 ≡ r u.0) (vars_of ts) → total ts (arg_ends s) ≡ total ts (arg_ends r)
total_same [] s r h = refl
total_same (t ∷ ts) s r h =
    let both = arg_has (λ u. s u.0 ≡ r u.0) t ts h in
    ap (λ (e : Ends). sum_ends (scaled_ends t.coef e) (total ts (arg_ends s))) (arg_span_same s r t.arg both.0)
    ∙ ap (sum_ends (scaled_ends t.coef (arg_ends r t.arg))) (total_same ts s r both.1)
