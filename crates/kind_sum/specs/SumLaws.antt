-- Laws of sums of terms and of lists of their variables.
use Rattle.dom_core.proofs.EndsLaws.{same_ends, added_size}
use Rattle.std.proofs.Common.{◌≡◌, ℕ, zero, suc, ◌+◌, ◌≤◌, true, false, List, [], ◌∷◌, ℤ, pos, negsuc, ◌+ℤ◌, ◌-ℤ◌, ◌*ℤ◌, ◌≤ℤ◌, int_lt, if◌then◌else◌, refl, ◌∙◌, ap, arith}
use Rattle.std.proofs.Math.IntN.{zero-*ℤ, *ℤ-zero}
use Rattle.std.proofs.lemmas.Int.{ints}
use Rattle.dom_core.specs.Assignment.{entry_at}
use Rattle.dom_core.specs.Ends.{Ends, only, sum_ends, scaled_ends, difference_ends, size_of}
use Rattle.dom_core.specs.declared.arg.Arg.{Arg}
use Rattle.dom_core.specs.declared.arg.Arg.TheVariants.{Var, Const}
use Rattle.dom_core.specs.declared.var_id.VarId.{VarId}
use Rattle.dom_core.proofs.ProductLaws.{pos_suc-times, neg_one-times, neg_suc-times, scaled_part, scaled_ordered}
use Rattle.kind_law.specs.Laws.{Each, EndsIn}
use Rattle.kind_law.proofs.ArgumentLaws.{split_arg}
use Rattle.kind_law.specs.Argument.{arg_span, arg_value, ArgHas}
use Rattle.kind_sum.specs.Sum.{total, sum_at, magnitude, vars_of}
use Rattle.kind_law.specs.declared.argument.Reading.{Reading}
use Rattle.kind_law.specs.declared.argument.Reading.TheVariants.{Values, Changes}
use Rattle.kind_sum.specs.declared.term.Term.{Term}

-- the fact holds of each argument that is a variable
pub arg_has : (P : VarId → Type 0) (t : Term) (ts : List Term) → Each P (vars_of (t ∷ ts)) → ArgHas P t.arg × Each P (vars_of ts)
arg_has P t ts h = split_arg P t.arg (vars_of ts) h

-- ---- products

pos_difference : (n : ℕ) (a b : ℤ) → (pos n *ℤ (a -ℤ b)) ≡ ((pos n *ℤ a) -ℤ (pos n *ℤ b))
pos_difference zero a b =
    let e : (pos 0 *ℤ (a -ℤ b)) ≡ pos 0 = zero-*ℤ (a -ℤ b) in
    let f : (pos 0 *ℤ a) ≡ pos 0 = zero-*ℤ a in
    let g : (pos 0 *ℤ b) ≡ pos 0 = zero-*ℤ b in
    omega (arith, ints)
pos_difference (suc n) a b =
    let e : (pos (suc n) *ℤ (a -ℤ b)) ≡ ((pos n *ℤ (a -ℤ b)) +ℤ (a -ℤ b)) = pos_suc-times n (a -ℤ b) in
    let f : (pos (suc n) *ℤ a) ≡ ((pos n *ℤ a) +ℤ a) = pos_suc-times n a in
    let g : (pos (suc n) *ℤ b) ≡ ((pos n *ℤ b) +ℤ b) = pos_suc-times n b in
    let h : (pos n *ℤ (a -ℤ b)) ≡ ((pos n *ℤ a) -ℤ (pos n *ℤ b)) = pos_difference n a b in
    omega (arith, ints)

neg_difference : (n : ℕ) (a b : ℤ) → (negsuc n *ℤ (a -ℤ b)) ≡ ((negsuc n *ℤ a) -ℤ (negsuc n *ℤ b))
neg_difference zero a b =
    let e : (negsuc zero *ℤ (a -ℤ b)) ≡ (pos 0 -ℤ (a -ℤ b)) = neg_one-times (a -ℤ b) in
    let f : (negsuc zero *ℤ a) ≡ (pos 0 -ℤ a) = neg_one-times a in
    let g : (negsuc zero *ℤ b) ≡ (pos 0 -ℤ b) = neg_one-times b in
    omega (arith, ints)
neg_difference (suc n) a b =
    let e : (negsuc (suc n) *ℤ (a -ℤ b)) ≡ ((negsuc n *ℤ (a -ℤ b)) -ℤ (a -ℤ b)) = neg_suc-times n (a -ℤ b) in
    let f : (negsuc (suc n) *ℤ a) ≡ ((negsuc n *ℤ a) -ℤ a) = neg_suc-times n a in
    let g : (negsuc (suc n) *ℤ b) ≡ ((negsuc n *ℤ b) -ℤ b) = neg_suc-times n b in
    let h : (negsuc n *ℤ (a -ℤ b)) ≡ ((negsuc n *ℤ a) -ℤ (negsuc n *ℤ b)) = neg_difference n a b in
    omega (arith, ints)

pub times_difference : (k a b : ℤ) → (k *ℤ (a -ℤ b)) ≡ ((k *ℤ a) -ℤ (k *ℤ b))
times_difference (pos n) a b = pos_difference n a b
times_difference (negsuc n) a b = neg_difference n a b

pub scaled_only : (k x : ℤ) → scaled_ends k (only x) ≡ only (k *ℤ x)
scaled_only k x =
    elim (int_lt k (pos 0)) as (λ b. (let e : Ends = record { lo = if b then k *ℤ x else k *ℤ x; hi = if b then k *ℤ x else k *ℤ x } in e) ≡ only (k *ℤ x))
    [ true ↦ refl | false ↦ refl ]

-- ---- sums

-- arguments lie within where variables do
pub span_within : (r : Reading) (small large : ℕ → Ends) (x : Arg) → ArgHas (λ u. EndsIn (small u.0) (large u.0)) x → EndsIn (arg_span r small x) (arg_span r large x)
span_within r small large (Var x) h = h
span_within Values small large (Const c) h = record { low = omega (arith, ints); order = omega (arith, ints); high = omega (arith, ints) }
span_within Changes small large (Const c) h = record { low = omega (arith, ints); order = omega (arith, ints); high = omega (arith, ints) }

pub scaled_in : (k : ℤ) (small large : Ends) → EndsIn small large → EndsIn (scaled_ends k small) (scaled_ends k large)
scaled_in k small large e =
    let p = scaled_part k small large e.low e.order e.high in
    record { low = p.0; order = scaled_ordered k small e.order; high = p.1 }

pub total_within : (ts : List Term) (r : Reading) (small large : ℕ → Ends) → Each (λ u. EndsIn (small u.0) (large u.0)) (vars_of ts)
    → EndsIn (total ts (arg_span r small)) (total ts (arg_span r large))
total_within [] r small large h = record { low = omega (arith, ints); order = omega (arith, ints); high = omega (arith, ints) }
total_within (t ∷ ts) r small large h =
    let both = arg_has (λ u. EndsIn (small u.0) (large u.0)) t ts h in
    let e : EndsIn (scaled_ends t.coef (arg_span r small t.arg)) (scaled_ends t.coef (arg_span r large t.arg)) =
    scaled_in t.coef (arg_span r small t.arg) (arg_span r large t.arg) (span_within r small large t.arg both.0) in
    let f : EndsIn (total ts (arg_span r small)) (total ts (arg_span r large)) = total_within ts r small large both.1 in
    record { low = omega (arith, ints, e.low, f.low); order = omega (arith, ints, e.order, f.order); high = omega (arith, ints, e.high, f.high) }

pub smaller_size : (small large : Ends) → EndsIn small large → size_of small ≤ size_of large
smaller_size small large e =
    let a : large.lo ≤ℤ small.lo = e.low in
    let b : small.lo ≤ℤ small.hi = e.order in
    let d : small.hi ≤ℤ large.hi = e.high in
    omega (arith, ints)

pub magnitude_within : (ts : List Term) (r : Reading) (small large : ℕ → Ends) → Each (λ u. EndsIn (small u.0) (large u.0)) (vars_of ts)
    → magnitude ts (arg_span r small) ≤ magnitude ts (arg_span r large)
magnitude_within [] r small large h = omega arith
magnitude_within (t ∷ ts) r small large h =
    let both = arg_has (λ u. EndsIn (small u.0) (large u.0)) t ts h in
    let e : size_of (scaled_ends t.coef (arg_span r small t.arg)) ≤ size_of (scaled_ends t.coef (arg_span r large t.arg)) =
    smaller_size _ _ (scaled_in t.coef (arg_span r small t.arg) (arg_span r large t.arg) (span_within r small large t.arg both.0)) in
    let f : magnitude ts (arg_span r small) ≤ magnitude ts (arg_span r large) = magnitude_within ts r small large both.1 in
    omega arith

point_arg : (x : Arg) (a : List ℤ) → arg_span Values (λ v. only (entry_at a v)) x ≡ only (arg_value a x)
point_arg (Var x) a = refl
point_arg (Const c) a = refl

-- the sum over one assignment
pub total_point : (ts : List Term) (a : List ℤ) → total ts (arg_span Values (λ v. only (entry_at a v))) ≡ only (sum_at ts a)
total_point [] a = refl
total_point (t ∷ ts) a =
    ap (λ (e : Ends). sum_ends e (total ts (arg_span Values (λ v. only (entry_at a v))))) (ap (scaled_ends t.coef) (point_arg t.arg a) ∙ scaled_only t.coef (arg_value a t.arg))
    ∙ ap (sum_ends (only (t.coef *ℤ arg_value a t.arg))) (total_point ts a)

-- ---- how large sums are

grown : (a b c d : ℕ) → a ≤ b + c → c ≤ d → a ≤ b + d
grown a b c d h g = omega arith

-- a sum is no larger than its terms together
pub total_size : (ts : List Term) (f : Arg → Ends) → size_of (total ts f) ≤ magnitude ts f
total_size [] f = omega arith
total_size (t ∷ ts) f =
    grown (size_of (total (t ∷ ts) f)) (size_of (scaled_ends t.coef (f t.arg))) (size_of (total ts f)) (magnitude ts f)
    (added_size (scaled_ends t.coef (f t.arg)) (total ts f)) (total_size ts f)

-- ---- how large changes are

low_difference : (k : ℤ) (a b : Ends) → (scaled_ends k (difference_ends a b)).lo ≡ (difference_ends (scaled_ends k a) (scaled_ends k b)).lo
low_difference k a b =
    elim (int_lt k (pos 0)) as (λ t. (if t then k *ℤ (a.hi -ℤ b.lo) else k *ℤ (a.lo -ℤ b.hi)) ≡ ((if t then k *ℤ a.hi else k *ℤ a.lo) -ℤ (if t then k *ℤ b.lo else k *ℤ b.hi)))
    [ true ↦ times_difference k a.hi b.lo | false ↦ times_difference k a.lo b.hi ]

high_difference : (k : ℤ) (a b : Ends) → (scaled_ends k (difference_ends a b)).hi ≡ (difference_ends (scaled_ends k a) (scaled_ends k b)).hi
high_difference k a b =
    elim (int_lt k (pos 0)) as (λ t. (if t then k *ℤ (a.lo -ℤ b.hi) else k *ℤ (a.hi -ℤ b.lo)) ≡ ((if t then k *ℤ a.lo else k *ℤ a.hi) -ℤ (if t then k *ℤ b.hi else k *ℤ b.lo)))
    [ true ↦ times_difference k a.lo b.hi | false ↦ times_difference k a.hi b.lo ]

scaled_difference : (k : ℤ) (a b : Ends) → scaled_ends k (difference_ends a b) ≡ difference_ends (scaled_ends k a) (scaled_ends k b)
scaled_difference k a b = same_ends (scaled_ends k (difference_ends a b)) (difference_ends (scaled_ends k a) (scaled_ends k b)) (low_difference k a b) (high_difference k a b)

size-difference : (a b : Ends) → size_of (difference_ends a b) ≤ size_of a + size_of b
size-difference a b = omega (arith, ints)

change_size : (k : ℤ) (c after before : Ends) → EndsIn c (difference_ends after before) → size_of (scaled_ends k c) ≤ size_of (scaled_ends k after) + size_of (scaled_ends k before)
change_size k c after before e =
    let m : size_of (scaled_ends k c) ≤ size_of (scaled_ends k (difference_ends after before)) = smaller_size _ _ (scaled_in k c (difference_ends after before) e) in
    let d : size_of (scaled_ends k (difference_ends after before)) ≡ size_of (difference_ends (scaled_ends k after) (scaled_ends k before)) = ap size_of (scaled_difference k after before) in
    let n : size_of (difference_ends (scaled_ends k after) (scaled_ends k before)) ≤ size_of (scaled_ends k after) + size_of (scaled_ends k before) =
    size-difference (scaled_ends k after) (scaled_ends k before) in
    omega arith

still_size : (k : ℤ) → size_of (scaled_ends k (only (pos 0))) ≡ 0
still_size k = ap size_of (scaled_only k (pos 0) ∙ ap only (*ℤ-zero k))

arg_change_size : (k : ℤ) (c after before : ℕ → Ends) (x : Arg) → ArgHas (λ u. EndsIn (c u.0) (difference_ends (after u.0) (before u.0))) x
    → size_of (scaled_ends k (arg_span Changes c x)) ≤ size_of (scaled_ends k (arg_span Values after x)) + size_of (scaled_ends k (arg_span Values before x))
arg_change_size k c after before (Var x) h = change_size k (c x.0) (after x.0) (before x.0) h
arg_change_size k c after before (Const v) h = let e : size_of (scaled_ends k (only (pos 0))) ≡ 0 = still_size k in omega arith

added4 : (a b c d e f : ℕ) → a ≤ b + c → d ≤ e + f → a + d ≤ (b + e) + (c + f)
added4 a b c d e f h g = omega arith

-- changes are no larger than values before and after together
pub magnitude_change : (ts : List Term) (c after before : ℕ → Ends) → Each (λ u. EndsIn (c u.0) (difference_ends (after u.0) (before u.0))) (vars_of ts)
    → magnitude ts (arg_span Changes c) ≤ magnitude ts (arg_span Values after) + magnitude ts (arg_span Values before)
magnitude_change [] c after before h = omega arith
magnitude_change (t ∷ ts) c after before h =
    let both = arg_has (λ u. EndsIn (c u.0) (difference_ends (after u.0) (before u.0))) t ts h in
    let e : size_of (scaled_ends t.coef (arg_span Changes c t.arg)) ≤ size_of (scaled_ends t.coef (arg_span Values after t.arg)) + size_of (scaled_ends t.coef (arg_span Values before t.arg)) =
    arg_change_size t.coef c after before t.arg both.0 in
    let f : magnitude ts (arg_span Changes c) ≤ magnitude ts (arg_span Values after) + magnitude ts (arg_span Values before) = magnitude_change ts c after before both.1 in
    added4 _ _ _ _ _ _ e f

pub each_unit : (vs : List VarId) → Each (λ u. Unit {0}) vs
each_unit [] = tt
each_unit (v ∷ vs) = (tt, each_unit vs)
