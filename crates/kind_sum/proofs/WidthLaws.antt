-- How large sums of terms can be, term by term.
use Rattle.std.proofs.Common.{◌≡◌, ℕ, ◌+◌, ◌-◌, ◌<◌, ◌≤◌, ◌^◌, true, false, nat_lt, List, [], length, drop, get_or, ℤ, pos, ◌*ℤ◌, int_lt, if◌then◌else◌, unsigned_abs, FitsSigned, w64, refl, sym, ◌∙◌, ap, arith}
use Rattle.std.proofs.lemmas.Int.{ints, fits_signed_mul}
use Rattle.std.proofs.lemmas.List.{drop_more}
use Rattle.std.specs.Int.{w128}
use Rattle.dom_core.specs.Ends.{Ends, scaled_ends, size_of}
use Rattle.dom_core.specs.declared.arg.Arg.{Arg}
use Rattle.dom_core.specs.declared.arg.Arg.TheVariants.{Var, Const}
use Rattle.kind_law.specs.Argument.{ArgHas, arg_ends}
use Rattle.kind_law.specs.Laws.{EndsIn, small_ends}
use Rattle.kind_sum.specs.Sum.{magnitude}
use Rattle.kind_sum.specs.declared.term.Term.{Term}
use Rattle.kind_sum.proofs.ReachLaws.{true_lt, false_lt}

-- what is left of a limit once the terms before these are taken off
pub record Spent (ts rest : List Term) (f : Arg → Ends) (limit left : ℕ) : Type 0 where
  pub balance : magnitude ts f + left ≡ limit + magnitude rest f

pub spent_first : (ts : List Term) (f : Arg → Ends) (limit left : ℕ) → left ≡ limit → Spent ts ts f limit left
spent_first ts f limit left e = record { balance = omega arith }

taken : (m left limit size rest : ℕ) → m + left ≡ limit + (size + rest) → size ≤ left → m + (left - size) ≡ limit + rest
taken m left limit size rest e le = omega arith

over : (m left limit size rest : ℕ) → m + left ≡ limit + (size + rest) → left < size → limit < m
over m left limit size rest e lt = omega arith

next_magnitude : (ts : List Term) (i : ℕ) (f : Arg → Ends) (size : ℕ) (d : Term) → i < length ts → size ≡ size_of (scaled_ends (get_or ts i d).coef (f (get_or ts i d).arg))
    → magnitude (drop i ts) f ≡ size + magnitude (drop (i + 1) ts) f
next_magnitude ts i f size d lt e =
    ap (λ (us : List Term). magnitude us f) (drop_more ts i d lt) ∙ ap (λ (n : ℕ). n + magnitude (drop (i + 1) ts) f) (sym e)

pub spent_more : (ts : List Term) (i : ℕ) (f : Arg → Ends) (limit left size : ℕ) (d : Term) → i < length ts → Spent ts (drop i ts) f limit left
    → size ≡ size_of (scaled_ends (get_or ts i d).coef (f (get_or ts i d).arg)) → size ≤ left → Spent ts (drop (i + 1) ts) f limit (left - size)
spent_more ts i f limit left size d lt s e le =
    record { balance = taken (magnitude ts f) left limit size (magnitude (drop (i + 1) ts) f) (s.balance ∙ ap (λ (n : ℕ). limit + n) (next_magnitude ts i f size d lt e)) le }

pub spent_over : (ts : List Term) (i : ℕ) (f : Arg → Ends) (limit left size : ℕ) (d : Term) → i < length ts → Spent ts (drop i ts) f limit left
    → size ≡ size_of (scaled_ends (get_or ts i d).coef (f (get_or ts i d).arg)) → left < size → nat_lt limit (magnitude ts f) ≡ true
spent_over ts i f limit left size d lt s e more =
    true_lt limit (magnitude ts f) (over (magnitude ts f) left limit size (magnitude (drop (i + 1) ts) f) (s.balance ∙ ap (λ (n : ℕ). limit + n) (next_magnitude ts i f size d lt e)) more)

within : (m left limit : ℕ) → m + left ≡ limit + 0 → m ≤ limit
within m left limit e = omega arith

pub spent_done : (ts rest : List Term) (f : Arg → Ends) (limit left : ℕ) → rest ≡ [] → Spent ts rest f limit left → nat_lt limit (magnitude ts f) ≡ false
spent_done ts rest f limit left none s =
    false_lt limit (magnitude ts f) (within (magnitude ts f) left limit (s.balance ∙ ap (λ (us : List Term). limit + magnitude us f) none))

-- ---- one term

small_end : (e : Ends) → EndsIn e small_ends → (unsigned_abs e.lo ≤ 2 ^ 63) × (unsigned_abs e.hi ≤ 2 ^ 63)
small_end e h = (omega (arith, ints, h.low, h.order, h.high), omega (arith, ints, h.low, h.order, h.high))

small_arg : (s : ℕ → Ends) (x : Arg) → ArgHas (λ u. EndsIn (s u.0) small_ends) x → ((c : ℤ) → x ≡ Const c → FitsSigned w64 c)
    → (unsigned_abs (arg_ends s x).lo ≤ 2 ^ 63) × (unsigned_abs (arg_ends s x).hi ≤ 2 ^ 63)
small_arg s (Var u) h f = small_end (s u.0) h
small_arg s (Const c) h f = let w : FitsSigned w64 c = f c refl in (omega (arith, ints), omega (arith, ints))

coef_size : (k : ℤ) → FitsSigned w64 k → unsigned_abs k ≤ 2 ^ 63
coef_size k h = omega (arith, ints)

product_fits : (k x : ℤ) → unsigned_abs k ≤ 2 ^ 63 → unsigned_abs x ≤ 2 ^ 63 → FitsSigned w128 (k *ℤ x)
product_fits k x h g = fits_signed_mul w128 k x (2 ^ 63) (2 ^ 63) h g (omega arith)

pub scaled_fits : (k : ℤ) (e : Ends) → FitsSigned w64 k → unsigned_abs e.lo ≤ 2 ^ 63 → unsigned_abs e.hi ≤ 2 ^ 63
    → FitsSigned w128 (scaled_ends k e).lo × FitsSigned w128 (scaled_ends k e).hi
scaled_fits k e f lo hi =
    let p : FitsSigned w128 (k *ℤ e.lo) = product_fits k e.lo (coef_size k f) lo in
    let q : FitsSigned w128 (k *ℤ e.hi) = product_fits k e.hi (coef_size k f) hi in
    elim (int_lt k (pos 0)) as (λ t. FitsSigned w128 (if t then k *ℤ e.hi else k *ℤ e.lo) × FitsSigned w128 (if t then k *ℤ e.lo else k *ℤ e.hi))
    [ true ↦ (q, p) | false ↦ (p, q) ]

pub term_fits : (k : ℤ) (s : ℕ → Ends) (x : Arg) → FitsSigned w64 k → ArgHas (λ u. EndsIn (s u.0) small_ends) x → ((c : ℤ) → x ≡ Const c → FitsSigned w64 c)
    → FitsSigned w128 (scaled_ends k (arg_ends s x)).lo × FitsSigned w128 (scaled_ends k (arg_ends s x)).hi
term_fits k s x f h g = let b = small_arg s x h g in scaled_fits k (arg_ends s x) f b.0 b.1
