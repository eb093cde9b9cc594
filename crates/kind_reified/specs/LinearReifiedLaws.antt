-- The laws of linear relations whose truth is the value of an argument.
use Rattle.std.proofs.Common.{◌≡◌, true, false, List, ℤ, ◌∙◌, ap}
use Rattle.dom_core.specs.Assignment.{entry_at}
use Rattle.dom_core.specs.Ends.{Ends, only, lies_in}
use Rattle.dom_core.specs.View.{IsCovered}
use Rattle.dom_core.specs.declared.var_id.VarId.{VarId}
use Rattle.dom_core.specs.declared.view.Movement.{Movement}
use Rattle.kind_law.specs.Laws.{Each, EndsIn, AreAmong, points, befores, afters, changes, FitsLaw, WidthLaw, ShrinkLaw, FixedLaw, KeepLaw, StillLaw, Covers}
use Rattle.kind_law.specs.DefineLaws.{ApartLaw, ArePartsOf, PassLaw, InputWidthLaw, ValueLaw, InputLaw, RangeLaw, MonotoneLaw, OwnChangeLaw, FixesLaw}
use Rattle.kind_law.proofs.ChangeLaws.{change_changed, rest_changed}
use Rattle.kind_law.proofs.EachLaws.{each_map}
use Rattle.kind_law.proofs.OutputLaws.{output_apart, output_parts, output_value, output_fixes, output_shrinks, output_fixed, output_keeps, output_stills}
use Rattle.kind_parts.proofs.RelationLaws.{over_has, over_within, over_only, row_has, number_is_truth}
use Rattle.kind_sum.specs.SumRelation.{sum_vars, sum_size, SumFits, sum_met}
use Rattle.kind_sum.specs.SumRelationLaws.{at_most, sum-fits, sum_change}
use Rattle.kind_sum.specs.InsertLaws.{sum_lies, sum_same}
use Rattle.kind_parts.specs.Relation.{is_related}
use Rattle.kind_reified.specs.LinearReified.{LinearReified, reified_vars, reified_given, reified_range, reified_own_change, reified_changed, reified_met, reified_refuted, reified_kept, is_giver}
use Rattle.kind_parts.specs.Relation.{truth_over}
use Rattle.kind_parts.specs.Relation.{number_of}
use Rattle.kind_law.specs.Argument.{arg_ends, arg_change, ArgHas, var_of}
use Rattle.kind_sum.specs.Sum.{total, sum_at, vars_of}
use Rattle.kind_law.proofs.ArgumentLaws.{all_listed, among_new_arg, each_listed, each_new_arg}
use Rattle.kind_sum.specs.SumLaws.{total_within, total_point}
use Rattle.kind_law.specs.declared.argument.Reading.TheVariants.{Values}

-- ---- the laws of a kind that defines

arg_all : (P : VarId → Type 0) (k : LinearReified) → Each P (reified_vars k) → Each P (sum_vars k.sum) × ArgHas P k.output
arg_all P k h = each_new_arg P (sum_vars k.sum) k.output h

pub reified-input : (k : LinearReified) → InputLaw (sum_vars k.sum) (reified_given k)
reified-input k a b h =
    ap (λ (s : ℤ). number_of (is_related k.sum.relation s k.sum.bound)) (sum_same k.sum.terms a b (each_listed (λ u. entry_at a u.0 ≡ entry_at b u.0) (vars_of k.sum.terms) h))

pub reified-range : (k : LinearReified) → RangeLaw (sum_vars k.sum) (reified_given k) (reified_range k)
reified-range k a s h =
    over_has k.sum.relation (total k.sum.terms (arg_ends s)) k.sum.bound (sum_at k.sum.terms a)
    (sum_lies k.sum.terms s a (each_listed (λ u. lies_in (entry_at a u.0) (s u.0) ≡ true) (vars_of k.sum.terms) h))

pub reified-monotone : (k : LinearReified) → MonotoneLaw (sum_vars k.sum) (reified_range k)
reified-monotone k small large w =
    over_within k.sum.relation (total k.sum.terms (arg_ends small)) (total k.sum.terms (arg_ends large)) k.sum.bound
    (total_within k.sum.terms Values small large (each_listed (λ u. EndsIn (small u.0) (large u.0)) (vars_of k.sum.terms) w.parts))

-- the own change

covered_before : (k : LinearReified) (view : List Movement) (a b : List ℤ) → Covers view (sum_vars k.sum) a b → lies_in (reified_given k a) (reified_range k (befores view)) ≡ true
covered_before k view a b c =
    reified-range k a (befores view) (each_map (λ u. IsCovered view a b u.0) (λ u. lies_in (entry_at a u.0) (befores view u.0) ≡ true) (sum_vars k.sum) (λ u m. m.before) c)

covered_after : (k : LinearReified) (view : List Movement) (a b : List ℤ) → Covers view (sum_vars k.sum) a b → lies_in (reified_given k b) (reified_range k (afters view)) ≡ true
covered_after k view a b c =
    reified-range k b (afters view) (each_map (λ u. IsCovered view a b u.0) (λ u. lies_in (entry_at b u.0) (afters view u.0) ≡ true) (sum_vars k.sum) (λ u m. m.after) c)

pub reified-own_change : (k : LinearReified) → OwnChangeLaw (sum_vars k.sum) (reified_given k) (reified_own_change k)
reified-own_change k view a b c =
    row_has k.sum.relation (total k.sum.terms (arg_change (changes view))) (reified_range k (befores view)) (reified_range k (afters view)) k.sum.bound
    (sum_at k.sum.terms a) (sum_at k.sum.terms b)
    (sum_change k.sum.terms view a b (each_listed (λ u. IsCovered view a b u.0) (vars_of k.sum.terms) c)) (covered_before k view a b c) (covered_after k view a b c)

pub range_point : (k : LinearReified) (a : List ℤ) → reified_range k (points a) ≡ only (reified_given k a)
range_point k a = ap (λ (e : Ends). truth_over k.sum.relation e k.sum.bound) (total_point k.sum.terms a) ∙ over_only k.sum.relation (sum_at k.sum.terms a) k.sum.bound

-- ---- the output

pub reified-apart : (k : LinearReified) → is_giver k ≡ true → ApartLaw (var_of k.output) (sum_vars k.sum)
reified-apart k = output_apart k.output (sum_vars k.sum)

pub reified-parts : (k : LinearReified) → is_giver k ≡ true → ArePartsOf (var_of k.output) (sum_vars k.sum) (reified_vars k)
reified-parts k = output_parts k.output (sum_vars k.sum)

pub reified-value : (k : LinearReified) → is_giver k ≡ true → ValueLaw (var_of k.output) (SumFits k.sum) (reified_given k) (reified_met k)
reified-value k = output_value (sum_vars k.sum) (SumFits k.sum) (reified_given k) k.output

pub reified-fixes : (k : LinearReified) → is_giver k ≡ true → FixesLaw (var_of k.output) (sum_vars k.sum) (SumFits k.sum) (reified_given k) (reified_refuted k)
reified-fixes k = output_fixes (sum_vars k.sum) (SumFits k.sum) (reified_given k) (reified_range k) k.output (reified-monotone k) (range_point k)

-- ---- the laws of a kind

pub reified-fits : (k : LinearReified) → FitsLaw (reified_vars k) (SumFits k.sum)
reified-fits k small large w f =
    sum-fits k.sum small large (record { parts = (arg_all (λ u. EndsIn (small u.0) (large u.0)) k w.parts).0 }) f

pub reified-shrink : (k : LinearReified) → ShrinkLaw (λ v. false) (reified_vars k) (reified_refuted k)
reified-shrink k = output_shrinks (sum_vars k.sum) (reified_range k) k.output (reified-monotone k)

pub reified-fixed : (k : LinearReified) → FixedLaw (reified_refuted k) (reified_met k)
reified-fixed k = output_fixed (reified_given k) (reified_range k) k.output (range_point k)

pub reified-keep : (k : LinearReified) → KeepLaw (reified_vars k) (reified_kept k) (reified_met k)
reified-keep k =
    output_keeps true (sum_vars k.sum) (reified_given k) (reified_range k) (reified_changed k) k.output (reified-range k)
    (change_changed (sum_vars k.sum) (reified_given k) (reified_range k) (reified_own_change k) (reified-input k) (reified-range k) (reified-own_change k))
    (λ _ b. number_is_truth (sum_met k.sum b))

pub reified-still : (k : LinearReified) → StillLaw (reified_vars k) (reified_kept k)
reified-still k =
    output_stills true (sum_vars k.sum) (reified_range k) (reified_changed k) k.output (rest_changed (sum_vars k.sum) (reified_range k) (reified_own_change k))

-- ---- how large the sum is

pub reified-width : (k : LinearReified) → WidthLaw (reified_vars k) (sum_size k.sum) (SumFits k.sum)
reified-width k s small le = at_most (sum_size k.sum s) le

pub reified-measured : (k : LinearReified) → AreAmong (sum_vars k.sum) (reified_vars k)
reified-measured k = among_new_arg (sum_vars k.sum) k.output

pub reified-inputs : (k : LinearReified) → FitsLaw (sum_vars k.sum) (SumFits k.sum)
reified-inputs k = sum-fits k.sum

pub reified-input_width : (k : LinearReified) → is_giver k ≡ true → InputWidthLaw (sum_vars k.sum) (sum_size k.sum) (λ s. true) (SumFits k.sum)
reified-input_width k g s small le total = at_most (sum_size k.sum s) le

pub reified-pass : (k : LinearReified) → is_giver k ≡ true → PassLaw (SumFits k.sum) (λ s. true) (SumFits k.sum)
reified-pass k g s fits total = fits

pub reified-measured_inputs : (k : LinearReified) → is_giver k ≡ true → AreAmong (sum_vars k.sum) (sum_vars k.sum)
reified-measured_inputs k g = all_listed (sum_vars k.sum)
