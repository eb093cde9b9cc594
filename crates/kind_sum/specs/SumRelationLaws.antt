-- The laws of linear relations.
use Rattle.dom_core.proofs.EndsLaws.{lies_low, lies_high, lies}
use Rattle.std.proofs.Common.{◌≡◌, ℕ, ◌≤◌, ◌^◌, true, false, List, [], ◌∷◌, ℤ, ◌-ℤ◌, ◌*ℤ◌, ◌≤ℤ◌, refl, ◌∙◌, ap, arith}
use Rattle.std.proofs.lemmas.Int.{ints}
use Rattle.dom_core.specs.Ends.{Ends, lies_in}
use Rattle.dom_core.specs.View.{IsCovered}
use Rattle.dom_core.specs.declared.view.Movement.{Movement}
use Rattle.dom_core.proofs.ProductLaws.{scaled_has}
use Rattle.kind_law.specs.Laws.{Each, EndsIn, AreWithin, AreAmong, hulls, changes, afters, FitsLaw, WidthLaw, SizeLaw, ShrinkLaw, FixedLaw, KeepLaw}
use Rattle.kind_law.proofs.BoundLaws.{smaller-within}
use Rattle.kind_parts.proofs.RelationLaws.{refuted_smaller, refuted_only, kept_related}
use Rattle.kind_sum.specs.SumRelation.{SumRelation, sum_vars, sum_size, SumFits, sum_met, sum_refuted, sum_kept}
use Rattle.kind_parts.specs.Relation.{refuted_by}
use Rattle.kind_law.specs.Argument.{arg_ends, arg_change, arg_value}
use Rattle.kind_sum.specs.Sum.{total, sum_at, vars_of}
use Rattle.kind_law.specs.declared.argument.Reading.TheVariants.{Values}
use Rattle.kind_sum.specs.declared.term.Term.{Term}
use Rattle.kind_law.proofs.ArgumentLaws.{all_listed, each_listed}
use Rattle.kind_law.proofs.ValueLaws.{value_after, value_moves}
use Rattle.kind_sum.specs.SumLaws.{arg_has, times_difference, total_within, magnitude_within, total_point}

-- ---- covered sums

pub sum_after : (ts : List Term) (view : List Movement) (a b : List ℤ) → Each (λ u. IsCovered view a b u.0) (vars_of ts)
    → lies_in (sum_at ts b) (total ts (arg_ends (afters view))) ≡ true
sum_after [] view a b h = refl
sum_after (t ∷ ts) view a b h =
    let both = arg_has (λ u. IsCovered view a b u.0) t ts h in
    let here : lies_in (arg_value b t.arg) (arg_ends (afters view) t.arg) ≡ true = value_after view a b t.arg both.0 in
    let s = scaled_has t.coef (arg_ends (afters view) t.arg) (arg_value b t.arg) (lies_low (arg_value b t.arg) (arg_ends (afters view) t.arg) here) (lies_high (arg_value b t.arg) (arg_ends (afters view) t.arg) here) in
    let rest : lies_in (sum_at ts b) (total ts (arg_ends (afters view))) ≡ true = sum_after ts view a b both.1 in
    let low : (total ts (arg_ends (afters view))).lo ≤ℤ sum_at ts b = lies_low (sum_at ts b) (total ts (arg_ends (afters view))) rest in
    let high : sum_at ts b ≤ℤ (total ts (arg_ends (afters view))).hi = lies_high (sum_at ts b) (total ts (arg_ends (afters view))) rest in
    lies (sum_at (t ∷ ts) b) (total (t ∷ ts) (arg_ends (afters view))) (omega (arith, ints, s.0)) (omega (arith, ints, s.1))

pub sum_change : (ts : List Term) (view : List Movement) (a b : List ℤ) → Each (λ u. IsCovered view a b u.0) (vars_of ts)
    → lies_in (sum_at ts b -ℤ sum_at ts a) (total ts (arg_change (changes view))) ≡ true
sum_change [] view a b h = refl
sum_change (t ∷ ts) view a b h =
    let both = arg_has (λ u. IsCovered view a b u.0) t ts h in
    let here : lies_in (arg_value b t.arg -ℤ arg_value a t.arg) (arg_change (changes view) t.arg) ≡ true = value_moves view a b t.arg both.0 in
    let s = scaled_has t.coef (arg_change (changes view) t.arg) (arg_value b t.arg -ℤ arg_value a t.arg)
    (lies_low (arg_value b t.arg -ℤ arg_value a t.arg) (arg_change (changes view) t.arg) here) (lies_high (arg_value b t.arg -ℤ arg_value a t.arg) (arg_change (changes view) t.arg) here) in
    let e : (t.coef *ℤ (arg_value b t.arg -ℤ arg_value a t.arg)) ≡ ((t.coef *ℤ arg_value b t.arg) -ℤ (t.coef *ℤ arg_value a t.arg)) =
    times_difference t.coef (arg_value b t.arg) (arg_value a t.arg) in
    let rest : lies_in (sum_at ts b -ℤ sum_at ts a) (total ts (arg_change (changes view))) ≡ true = sum_change ts view a b both.1 in
    let low : (total ts (arg_change (changes view))).lo ≤ℤ (sum_at ts b -ℤ sum_at ts a) = lies_low (sum_at ts b -ℤ sum_at ts a) (total ts (arg_change (changes view))) rest in
    let high : (sum_at ts b -ℤ sum_at ts a) ≤ℤ (total ts (arg_change (changes view))).hi = lies_high (sum_at ts b -ℤ sum_at ts a) (total ts (arg_change (changes view))) rest in
    lies (sum_at (t ∷ ts) b -ℤ sum_at (t ∷ ts) a) (total (t ∷ ts) (arg_change (changes view))) (omega (arith, ints, s.0)) (omega (arith, ints, s.1))

-- ---- the laws

pub sum-size : (k : SumRelation) → SizeLaw (sum_vars k) (sum_size k)
sum-size k small large w =
    magnitude_within k.terms Values small large (each_listed (λ u. EndsIn (small u.0) (large u.0)) (vars_of k.terms) w.parts)

pub sum-fits : (k : SumRelation) → FitsLaw (sum_vars k) (SumFits k)
sum-fits k small large w f = let m : sum_size k small ≤ sum_size k large = sum-size k small large w in omega arith

pub at_most : (n : ℕ) → n ≤ 2 ^ 100 → n ≤ 2 ^ 101
at_most n h = omega arith

pub sum-width : (k : SumRelation) → WidthLaw (sum_vars k) (sum_size k) (SumFits k)
sum-width k s small le = at_most (sum_size k s) le

pub sum-measured : (k : SumRelation) → AreAmong (sum_vars k) (sum_vars k)
sum-measured k = all_listed (sum_vars k)

pub sum-shrink : (k : SumRelation) → ShrinkLaw (λ v. false) (sum_vars k) (sum_refuted k)
sum-shrink k small large s r =
    let w : AreWithin (sum_vars k) (hulls small) (hulls large) = smaller-within (λ v. false) (sum_vars k) small large s in
    refuted_smaller k.relation (total k.terms (arg_ends (hulls small))) (total k.terms (arg_ends (hulls large))) k.bound
    (total_within k.terms Values (hulls small) (hulls large) (each_listed (λ u. EndsIn (hulls small u.0) (hulls large u.0)) (vars_of k.terms) w.parts)) r

pub sum-fixed : (k : SumRelation) → FixedLaw (sum_refuted k) (sum_met k)
sum-fixed k a = ap (λ (e : Ends). refuted_by k.relation e k.bound) (total_point k.terms a) ∙ refuted_only k.relation (sum_at k.terms a) k.bound

pub sum-keep : (k : SumRelation) → KeepLaw (sum_vars k) (sum_kept k) (sum_met k)
sum-keep k view a b c h m =
    let each : Each (λ u. IsCovered view a b u.0) (vars_of k.terms) = each_listed (λ u. IsCovered view a b u.0) (vars_of k.terms) c in
    kept_related k.relation (total k.terms (arg_change (changes view))) (total k.terms (arg_ends (afters view))) k.bound (sum_at k.terms a) (sum_at k.terms b)
    (sum_change k.terms view a b each) (sum_after k.terms view a b each) h m
