-- Sums and lists that are made term by term.
use Rattle.dom_core.proofs.EndsLaws.{same_ends, added_size}
use Rattle.std.proofs.Common.{◌≡◌, ℕ, ◌+◌, ◌<◌, ◌≤◌, ◌^◌, List, [], ◌∷◌, length, drop, get_or, ℤ, pos, ◌+ℤ◌, refl, sym, ◌∙◌, arith}
use Rattle.std.proofs.lemmas.Int.{ints}
use Rattle.std.proofs.lemmas.List.{drop_more}
use Rattle.dom_core.specs.Ends.{Ends, only, sum_ends, scaled_ends, size_of}
use Rattle.dom_core.specs.declared.arg.Arg.{Arg}
use Rattle.dom_core.specs.declared.arg.Arg.TheVariants.{Var, Const}
use Rattle.dom_core.specs.declared.var_id.VarId.{VarId}
use Rattle.kind_law.specs.Laws.{Each}
use Rattle.kind_law.specs.Argument.{with_arg, with_new_arg, collected}
use Rattle.kind_sum.specs.Sum.{total, magnitude, vars_of}
use Rattle.kind_sum.specs.SumLaws.{arg_has}
use Rattle.kind_sum.specs.declared.term.Term.{Term}

-- a sum so far, with the terms that are left
pub record Running (ts rest : List Term) (f : Arg → Ends) (sum : Ends) : Type 0 where
  pub whole : sum_ends sum (total rest f) ≡ total ts f
  pub small : size_of sum + magnitude rest f ≤ 2 ^ 102

zero_sum : (e : Ends) → sum_ends (only (pos 0)) e ≡ e
zero_sum e = same_ends (sum_ends (only (pos 0)) e) e (omega (arith, ints)) (omega (arith, ints))

pub running-first : (ts : List Term) (f : Arg → Ends) → magnitude ts f ≤ 2 ^ 102 → Running ts ts f (only (pos 0))
running-first ts f h = record { whole = zero_sum (total ts f); small = omega (arith, ints) }

regroup : (a b c : ℤ) → ((a +ℤ b) +ℤ c) ≡ (a +ℤ (b +ℤ c))
regroup a b c = omega (arith, ints)

bounded : (s a b m limit : ℕ) → s ≤ a + b → a + (b + m) ≤ limit → s + m ≤ limit
bounded s a b m limit h g = omega arith

pub running-more : (ts rest : List Term) (t : Term) (f : Arg → Ends) (sum : Ends) → Running ts (t ∷ rest) f sum
    → Running ts rest f (sum_ends sum (scaled_ends t.coef (f t.arg)))
running-more ts rest t f sum r =
    let e : sum_ends (sum_ends sum (scaled_ends t.coef (f t.arg))) (total rest f) ≡ sum_ends sum (sum_ends (scaled_ends t.coef (f t.arg)) (total rest f)) =
    same_ends _ _ (regroup sum.lo (scaled_ends t.coef (f t.arg)).lo (total rest f).lo) (regroup sum.hi (scaled_ends t.coef (f t.arg)).hi (total rest f).hi) in
    let n : size_of (sum_ends sum (scaled_ends t.coef (f t.arg))) ≤ size_of sum + size_of (scaled_ends t.coef (f t.arg)) = added_size sum (scaled_ends t.coef (f t.arg)) in
    record { whole = e ∙ r.whole; small = bounded (size_of (sum_ends sum (scaled_ends t.coef (f t.arg)))) (size_of sum) (size_of (scaled_ends t.coef (f t.arg))) (magnitude rest f) (2 ^ 102) n r.small }

second_part : (a b m limit : ℕ) → a + (b + m) ≤ limit → b ≤ limit
second_part a b m limit h = omega arith

pub part_size : (ts rest : List Term) (t : Term) (f : Arg → Ends) (sum : Ends) → Running ts (t ∷ rest) f sum → size_of (scaled_ends t.coef (f t.arg)) ≤ 2 ^ 102
part_size ts rest t f sum r = second_part (size_of sum) (size_of (scaled_ends t.coef (f t.arg))) (magnitude rest f) (2 ^ 102) r.small

first_part : (a m limit : ℕ) → a + m ≤ limit → a ≤ limit
first_part a m limit h = omega arith

pub running_size : (ts rest : List Term) (f : Arg → Ends) (sum : Ends) → Running ts rest f sum → size_of sum ≤ 2 ^ 102
running_size ts rest f sum r = first_part (size_of sum) (magnitude rest f) (2 ^ 102) r.small

pub running-done : (ts : List Term) (f : Arg → Ends) (sum : Ends) → Running ts [] f sum → sum ≡ total ts f
running-done ts f sum r = sym (same_ends (sum_ends sum (only (pos 0))) sum (omega (arith, ints)) (omega (arith, ints))) ∙ r.whole

-- one step of a sum that goes through the terms
pub running-step : (ts : List Term) (i : ℕ) (f : Arg → Ends) (sum part : Ends) (d : Term) → i < length ts → Running ts (drop i ts) f sum
    → part ≡ scaled_ends (get_or ts i d).coef (f (get_or ts i d).arg) → Running ts (drop (i + 1) ts) f (sum_ends sum part)
running-step ts i f sum part d lt r e =
    let more : drop i ts ≡ get_or ts i d ∷ drop (i + 1) ts = drop_more ts i d lt in
    rw e (running-more ts (drop (i + 1) ts) (get_or ts i d) f sum (rw more at r))

pub vars-step : (P : VarId → Type 0) (ts : List Term) (i : ℕ) (d : Term) → i < length ts → Each P (vars_of (drop i ts)) → Each P (vars_of (drop (i + 1) ts))
vars-step P ts i d lt h =
    let more : drop i ts ≡ get_or ts i d ∷ drop (i + 1) ts = drop_more ts i d lt in
    (arg_has P (get_or ts i d) (drop (i + 1) ts) (rw more at h)).1

-- ---- variables one by one

pub collected-arg : (seen : List VarId) (x : Arg) (vs : List VarId) → collected seen (with_arg x vs) ≡ collected (with_new_arg seen x) vs
collected-arg seen (Var x) vs = refl
collected-arg seen (Const c) vs = refl
