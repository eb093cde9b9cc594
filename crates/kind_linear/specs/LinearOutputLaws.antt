-- The laws of linear equations that give one of their variables its value.
use Rattle.std.proofs.Common.{◌≡◌, ◌≤◌, ◌+◌, ◌^◌, ◌==◌, ◌||◌, Bool, true, false, not, List, [], ◌∷◌, ◌++◌, ℕ, ℤ, pos, ◌+ℤ◌, ◌-ℤ◌, ◌*ℤ◌, ◌≤ℤ◌, refl, ◌∙◌, ap, arith}
use Rattle.std.proofs.lemmas.Int.{ints}
use Rattle.std.specs.Ordering.{int_eq}
use Rattle.dom_core.specs.Assignment.{entry_at}
use Rattle.dom_cells.specs.Cell.{lo_of, hi_of, ends_of}
use Rattle.dom_core.proofs.EndsLaws.{lies_low, lies_high, lies, same_ends}
use Rattle.dom_core.specs.Ends.{Ends, only, lies_in, sum_ends, scaled_ends, size_of}
use Rattle.dom_core.specs.View.{IsCovered}
use Rattle.dom_core.proofs.ProductLaws.{neg_one-times}
use Rattle.dom_core.proofs.RisesLaws.{same_test, int_eq_same, int_eq_from, or_left, or_right}
use Rattle.dom_core.proofs.TestLaws.{not_true}
use Rattle.dom_core.specs.declared.var_id.VarId.{VarId}
use Rattle.kind_sum.specs.declared.term.Term.{Term}
use Rattle.std.proofs.lemmas.Bool.Decides.{Decides-eqb}
use Rattle.kind_law.specs.Laws.{Each, EndsIn, AreAmong, AreSmall, small_ends, hulls, points, changes, FitsLaw, WidthLaw, SizeLaw, ShrinkLaw, FixedLaw, KeepLaw, StillLaw}
use Rattle.kind_law.specs.DefineLaws.{ApartLaw, ArePartsOf, PassLaw, InputWidthLaw, ValueLaw, InputLaw, RangeLaw, MonotoneLaw, OwnChangeLaw, FixesLaw}
use Rattle.kind_law.proofs.EachLaws.{each_map}
use Rattle.kind_sum.specs.SumRelationStill.{sum-still}
use Rattle.kind_sum.specs.SumRelation.{sum_vars, SumFits, sum_met, sum_refuted, sum_kept}
use Rattle.kind_sum.specs.SumRelationLaws.{sum-shrink, sum-fixed, sum-keep, sum_change}
use Rattle.kind_sum.specs.InsertLaws.{total-insert, sum_at-insert, magnitude-insert, each-insert, one_times, one_scaled, minus_scaled, sum_lies, sum_same, total_same}
use Rattle.kind_linear.specs.LinearOutput.{LinearOutput, sign_of, own_term, rest_of, inputs_of, relation_of, is_functional, turned_value, turned_ends, solved_value, solved_ends, OutputFits, InputsFit, output_given, output_range, output_own_change, output_size}
use Rattle.kind_law.specs.Argument.{ArgHas, arg_ends, arg_change, is_listed}
use Rattle.kind_sum.specs.Sum.{total, sum_at, magnitude, vars_of}
use Rattle.kind_law.proofs.ArgumentLaws.{all_listed, each_distinct, each_listed, join_arg, unlisted_apart}
use Rattle.kind_sum.specs.SumLaws.{arg_has, total_within, magnitude_within, total_point, smaller_size}
use Rattle.kind_law.specs.declared.argument.Reading.TheVariants.{Values}

-- ---- the output's own term

own_ends : (turned : Bool) (e : Ends) → scaled_ends (sign_of turned) e ≡ turned_ends turned e
own_ends true e = minus_scaled e
own_ends false e = one_scaled e

own_value : (turned : Bool) (x : ℤ) → (sign_of turned *ℤ x) ≡ turned_value turned x
own_value true x = neg_one-times x
own_value false x = one_times x

own_size : (turned : Bool) (e : Ends) → size_of (turned_ends turned e) ≡ size_of e
own_size true e = omega (arith, ints)
own_size false e = refl

pub fits_relation : (d : LinearOutput) (s : ℕ → Ends) → OutputFits d s → SumFits (relation_of d) s
fits_relation d s f =
    let e : magnitude (d.front ++ own_term d ∷ d.back) (arg_ends s) ≡ size_of (scaled_ends (sign_of d.turned) (s d.output.0)) + magnitude (rest_of d) (arg_ends s) =
    magnitude-insert d.front d.back (own_term d) (arg_ends s) in
    let own : size_of (scaled_ends (sign_of d.turned) (s d.output.0)) ≡ size_of (s d.output.0) =
    ap size_of (own_ends d.turned (s d.output.0)) ∙ own_size d.turned (s d.output.0) in
    let inputs : magnitude (rest_of d) (arg_ends s) ≤ 2 ^ 100 = f.0 in
    let output : size_of (s d.output.0) ≤ 2 ^ 100 = f.1 in
    omega arith

-- ---- the laws of a kind

pub output-fits : (d : LinearOutput) → FitsLaw (sum_vars (relation_of d)) (OutputFits d)
output-fits d small large w f =
    let each : Each (λ u. EndsIn (small u.0) (large u.0)) (vars_of (d.front ++ own_term d ∷ d.back)) =
    each_listed (λ u. EndsIn (small u.0) (large u.0)) (vars_of (d.front ++ own_term d ∷ d.back)) w.parts in
    let both = each-insert (λ u. EndsIn (small u.0) (large u.0)) d.front d.back (own_term d) each in
    let m : magnitude (rest_of d) (arg_ends small) ≤ magnitude (rest_of d) (arg_ends large) = magnitude_within (rest_of d) Values small large both.1 in
    let n : size_of (small d.output.0) ≤ size_of (large d.output.0) = smaller_size (small d.output.0) (large d.output.0) both.0 in
    (omega (arith, f.0), omega (arith, f.1))

pub output-shrink : (d : LinearOutput) → ShrinkLaw (λ v. false) (sum_vars (relation_of d)) (sum_refuted (relation_of d))
output-shrink d = sum-shrink (relation_of d)

pub output-fixed : (d : LinearOutput) → FixedLaw (sum_refuted (relation_of d)) (sum_met (relation_of d))
output-fixed d = sum-fixed (relation_of d)

pub output-keep : (d : LinearOutput) → KeepLaw (sum_vars (relation_of d)) (sum_kept (relation_of d)) (sum_met (relation_of d))
output-keep d = sum-keep (relation_of d)

-- ---- the laws of a kind that defines

only_solved : (turned : Bool) (c t : ℤ) → (solved_ends turned c (only t)) ≡ only (solved_value turned c t)
only_solved true c t = refl
only_solved false c t = refl

-- the range over one assignment is the value
pub range_point : (d : LinearOutput) (a : List ℤ) → output_range d (points a) ≡ only (output_given d a)
range_point d a = ap (solved_ends d.turned d.bound) (total_point (rest_of d) a) ∙ only_solved d.turned d.bound (sum_at (rest_of d) a)

solves : (turned : Bool) (y t c : ℤ) → (turned_value turned y +ℤ t) ≡ c → y ≡ solved_value turned c t
solves true y t c e = omega (arith, ints)
solves false y t c e = omega (arith, ints)

solved_back : (turned : Bool) (y t c : ℤ) → y ≡ solved_value turned c t → (turned_value turned y +ℤ t) ≡ c
solved_back true y t c e = omega (arith, ints)
solved_back false y t c e = omega (arith, ints)

pub output-value : (d : LinearOutput) → is_functional d ≡ true → ValueLaw d.output (InputsFit d) (output_given d) (sum_met (relation_of d))
output-value d f a fits =
    let sum : sum_at (d.front ++ own_term d ∷ d.back) a ≡ (turned_value d.turned (entry_at a d.output.0) +ℤ sum_at (rest_of d) a) =
    sum_at-insert d.front d.back (own_term d) a ∙ ap (λ (x : ℤ). x +ℤ sum_at (rest_of d) a) (own_value d.turned (entry_at a d.output.0)) in
    ap (λ (x : ℤ). int_eq x d.bound) sum
    ∙ same_test (int_eq (turned_value d.turned (entry_at a d.output.0) +ℤ sum_at (rest_of d) a) d.bound) (int_eq (entry_at a d.output.0) (output_given d a))
    (λ h. int_eq_from (entry_at a d.output.0) (output_given d a) (solves d.turned (entry_at a d.output.0) (sum_at (rest_of d) a) d.bound
    (int_eq_same (turned_value d.turned (entry_at a d.output.0) +ℤ sum_at (rest_of d) a) d.bound h)))
    (λ h. int_eq_from (turned_value d.turned (entry_at a d.output.0) +ℤ sum_at (rest_of d) a) d.bound (solved_back d.turned (entry_at a d.output.0) (sum_at (rest_of d) a) d.bound
    (int_eq_same (entry_at a d.output.0) (output_given d a) h)))

pub output-input : (d : LinearOutput) → InputLaw (inputs_of d) (output_given d)
output-input d a b h =
    ap (solved_value d.turned d.bound) (sum_same (rest_of d) a b (each_listed (λ u. entry_at a u.0 ≡ entry_at b u.0) (vars_of (rest_of d)) h))

solved_lies : (turned : Bool) (c x : ℤ) (t : Ends) → lies_in x t ≡ true → lies_in (solved_value turned c x) (solved_ends turned c t) ≡ true
solved_lies true c x t h =
    let low : t.lo ≤ℤ x = lies_low x t h in
    let high : x ≤ℤ t.hi = lies_high x t h in
    lies (solved_value true c x) (solved_ends true c t) (omega (arith, ints)) (omega (arith, ints))
solved_lies false c x t h =
    let low : t.lo ≤ℤ x = lies_low x t h in
    let high : x ≤ℤ t.hi = lies_high x t h in
    lies (solved_value false c x) (solved_ends false c t) (omega (arith, ints)) (omega (arith, ints))

pub output-range : (d : LinearOutput) → RangeLaw (inputs_of d) (output_given d) (output_range d)
output-range d a s h =
    solved_lies d.turned d.bound (sum_at (rest_of d) a) (total (rest_of d) (arg_ends s))
    (sum_lies (rest_of d) s a (each_listed (λ u. lies_in (entry_at a u.0) (s u.0) ≡ true) (vars_of (rest_of d)) h))

solved_within : (turned : Bool) (c : ℤ) (small large : Ends) → EndsIn small large → EndsIn (solved_ends turned c small) (solved_ends turned c large)
solved_within true c small large e =
    record { low = omega (arith, ints, e.low); order = omega (arith, ints, e.order); high = omega (arith, ints, e.high) }
solved_within false c small large e =
    record { low = omega (arith, ints, e.high); order = omega (arith, ints, e.order); high = omega (arith, ints, e.low) }

pub output-monotone : (d : LinearOutput) → MonotoneLaw (inputs_of d) (output_range d)
output-monotone d small large w =
    solved_within d.turned d.bound (total (rest_of d) (arg_ends small)) (total (rest_of d) (arg_ends large))
    (total_within (rest_of d) Values small large (each_listed (λ u. EndsIn (small u.0) (large u.0)) (vars_of (rest_of d)) w.parts))

row_lies : (turned : Bool) (c s t : ℤ) (e : Ends) → lies_in (t -ℤ s) e ≡ true
    → lies_in (solved_value turned c t -ℤ solved_value turned c s) (turned_ends (not turned) e) ≡ true
row_lies true c s t e h =
    let low : e.lo ≤ℤ (t -ℤ s) = lies_low (t -ℤ s) e h in
    let high : (t -ℤ s) ≤ℤ e.hi = lies_high (t -ℤ s) e h in
    lies (solved_value true c t -ℤ solved_value true c s) e (omega (arith, ints)) (omega (arith, ints))
row_lies false c s t e h =
    let low : e.lo ≤ℤ (t -ℤ s) = lies_low (t -ℤ s) e h in
    let high : (t -ℤ s) ≤ℤ e.hi = lies_high (t -ℤ s) e h in
    lies (solved_value false c t -ℤ solved_value false c s) (turned_ends true e) (omega (arith, ints)) (omega (arith, ints))

pub output-own_change : (d : LinearOutput) → OwnChangeLaw (inputs_of d) (output_given d) (output_own_change d)
output-own_change d view a b c =
    row_lies d.turned d.bound (sum_at (rest_of d) a) (sum_at (rest_of d) b) (total (rest_of d) (arg_change (changes view)))
    (sum_change (rest_of d) view a b (each_listed (λ u. IsCovered view a b u.0) (vars_of (rest_of d)) c))

only_added : (turned : Bool) (c t : ℤ) (e : Ends) → lies_in c (sum_ends (turned_ends turned e) (only t)) ≡ true → lies_in (solved_value turned c t) e ≡ true
only_added true c t e h =
    let low : ((pos 0 -ℤ e.hi) +ℤ t) ≤ℤ c = lies_low c (sum_ends (turned_ends true e) (only t)) h in
    let high : c ≤ℤ ((pos 0 -ℤ e.lo) +ℤ t) = lies_high c (sum_ends (turned_ends true e) (only t)) h in
    lies (solved_value true c t) e (omega (arith, ints)) (omega (arith, ints))
only_added false c t e h =
    let low : (e.lo +ℤ t) ≤ℤ c = lies_low c (sum_ends (turned_ends false e) (only t)) h in
    let high : c ≤ℤ (e.hi +ℤ t) = lies_high c (sum_ends (turned_ends false e) (only t)) h in
    lies (solved_value false c t) e (omega (arith, ints)) (omega (arith, ints))

added_only : (turned : Bool) (c t : ℤ) (e : Ends) → lies_in (solved_value turned c t) e ≡ true → lies_in c (sum_ends (turned_ends turned e) (only t)) ≡ true
added_only true c t e h =
    let low : e.lo ≤ℤ solved_value true c t = lies_low (solved_value true c t) e h in
    let high : solved_value true c t ≤ℤ e.hi = lies_high (solved_value true c t) e h in
    lies c (sum_ends (turned_ends true e) (only t)) (omega (arith, ints)) (omega (arith, ints))
added_only false c t e h =
    let low : e.lo ≤ℤ solved_value false c t = lies_low (solved_value false c t) e h in
    let high : solved_value false c t ≤ℤ e.hi = lies_high (solved_value false c t) e h in
    lies c (sum_ends (turned_ends false e) (only t)) (omega (arith, ints)) (omega (arith, ints))

pub output-fixes : (d : LinearOutput) → is_functional d ≡ true → FixesLaw d.output (inputs_of d) (InputsFit d) (output_given d) (sum_refuted (relation_of d))
output-fixes d f b a fixed all fits sane =
    let each : Each (λ u. hulls b u.0 ≡ only (entry_at a u.0)) (vars_of (rest_of d)) =
    each_listed (λ u. hulls b u.0 ≡ only (entry_at a u.0)) (vars_of (rest_of d))
    (each_map (λ u. (lo_of (b u.0) ≡ entry_at a u.0) × (hi_of (b u.0) ≡ entry_at a u.0)) (λ u. hulls b u.0 ≡ only (entry_at a u.0)) (inputs_of d)
    (λ u h. same_ends (hulls b u.0) (only (entry_at a u.0)) h.0 h.1) fixed) in
    let sum : total (d.front ++ own_term d ∷ d.back) (arg_ends (hulls b)) ≡ sum_ends (turned_ends d.turned (ends_of (b d.output.0))) (only (sum_at (rest_of d) a)) =
    total-insert d.front d.back (own_term d) (arg_ends (hulls b))
    ∙ ap (λ (e : Ends). sum_ends e (total (rest_of d) (arg_ends (hulls b)))) (own_ends d.turned (ends_of (b d.output.0)))
    ∙ ap (sum_ends (turned_ends d.turned (ends_of (b d.output.0)))) (total_same (rest_of d) (hulls b) (λ v. only (entry_at a v)) each ∙ total_point (rest_of d) a) in
    ap not (ap (lies_in d.bound) sum
    ∙ same_test (lies_in d.bound (sum_ends (turned_ends d.turned (ends_of (b d.output.0))) (only (sum_at (rest_of d) a)))) (lies_in (output_given d a) (ends_of (b d.output.0)))
    (only_added d.turned d.bound (sum_at (rest_of d) a) (ends_of (b d.output.0))) (added_only d.turned d.bound (sum_at (rest_of d) a) (ends_of (b d.output.0))))

pub output-size : (d : LinearOutput) → SizeLaw (inputs_of d) (output_size d)
output-size d small large w =
    magnitude_within (rest_of d) Values small large (each_listed (λ u. EndsIn (small u.0) (large u.0)) (vars_of (rest_of d)) w.parts)

pub output-inputs : (d : LinearOutput) → FitsLaw (inputs_of d) (InputsFit d)
output-inputs d small large w f = let m : output_size d small ≤ output_size d large = output-size d small large w in omega arith

-- ---- how large the other terms are

small_size : (e : Ends) → EndsIn e small_ends → size_of e ≤ 2 ^ 100
small_size e h = omega (arith, ints, h.low, h.order, h.high)

own_small : (d : LinearOutput) (s : ℕ → Ends) → AreSmall (sum_vars (relation_of d)) s → EndsIn (s d.output.0) small_ends
own_small d s small =
    (each-insert (λ u. EndsIn (s u.0) small_ends) d.front d.back (own_term d)
    (each_listed (λ u. EndsIn (s u.0) small_ends) (vars_of (d.front ++ own_term d ∷ d.back)) small.parts)).0

pub output-width : (d : LinearOutput) → WidthLaw (sum_vars (relation_of d)) (output_size d) (OutputFits d)
output-width d s small le = (le, small_size (s d.output.0) (own_small d s small))

-- ---- the variables

-- what holds of the picked term's variable and of the others' holds of all
each-inserted : (P : VarId → Type 0) (front back : List Term) (t : Term) → ArgHas P t.arg → Each P (vars_of (front ++ back)) → Each P (vars_of (front ++ t ∷ back))
each-inserted P [] back t h g = join_arg P t.arg (vars_of back) h g
each-inserted P (s ∷ front) back t h g =
    let both = arg_has P s (front ++ back) g in
    join_arg P s.arg (vars_of (front ++ t ∷ back)) both.0 (each-inserted P front back t h both.1)

all_parts : (P : VarId → Type 0) (d : LinearOutput) → Each P (sum_vars (relation_of d)) → P d.output × Each P (inputs_of d)
all_parts P d h =
    let both = each-insert P d.front d.back (own_term d) (each_listed P (vars_of (d.front ++ own_term d ∷ d.back)) h) in
    (both.0, each_distinct P (vars_of (rest_of d)) both.1)

parts_all : (P : VarId → Type 0) (d : LinearOutput) → P d.output → Each P (inputs_of d) → Each P (sum_vars (relation_of d))
parts_all P d h g =
    each_distinct P (vars_of (d.front ++ own_term d ∷ d.back)) (each-inserted P d.front d.back (own_term d) h (each_listed P (vars_of (rest_of d)) g))

pub output-measured : (d : LinearOutput) → AreAmong (inputs_of d) (sum_vars (relation_of d))
output-measured d = (all_parts (λ u. is_listed u (sum_vars (relation_of d)) ≡ true) d (all_listed (sum_vars (relation_of d)))).1

pub output-measured_inputs : (d : LinearOutput) → is_functional d ≡ true → AreAmong (inputs_of d) (inputs_of d)
output-measured_inputs d f = all_listed (inputs_of d)

pub output-apart : (d : LinearOutput) → is_functional d ≡ true → ApartLaw d.output (inputs_of d)
output-apart d f = unlisted_apart d.output (inputs_of d) (not_true (is_listed d.output (inputs_of d)) f)

pub output-parts : (d : LinearOutput) → is_functional d ≡ true → ArePartsOf d.output (inputs_of d) (sum_vars (relation_of d))
output-parts d f =
    let own = all_parts (λ u. is_listed u (sum_vars (relation_of d)) ≡ true) d (all_listed (sum_vars (relation_of d))) in
    record {
      own = own.0;
      others = own.1;
      all = parts_all (λ v. (v.0 == d.output.0 || is_listed v (inputs_of d)) ≡ true) d
          (or_left (d.output.0 == d.output.0) (is_listed d.output (inputs_of d)) ((Decides-eqb d.output.0 d.output.0).1 refl))
          (each_map (λ u. is_listed u (inputs_of d) ≡ true) (λ v. (v.0 == d.output.0 || is_listed v (inputs_of d)) ≡ true) (inputs_of d)
          (λ u h. or_right (u.0 == d.output.0) (is_listed u (inputs_of d)) h) (all_listed (inputs_of d)));
    }

pub output-pass : (d : LinearOutput) → is_functional d ≡ true → PassLaw (OutputFits d) (λ s. true) (InputsFit d)
output-pass d f s fits total = fits.0

pub output-input_width : (d : LinearOutput) → is_functional d ≡ true → InputWidthLaw (inputs_of d) (output_size d) (λ s. true) (InputsFit d)
output-input_width d f s small le total = le

-- where the view moves no variable, the equation is kept
pub output-still : (d : LinearOutput) → StillLaw (sum_vars (relation_of d)) (sum_kept (relation_of d))
output-still d = sum-still (relation_of d)
