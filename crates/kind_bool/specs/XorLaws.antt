-- The laws of truths whether two arguments differ.
use Rattle.std.proofs.Common.{◌≡◌, Bool, true, false, not, ◌&&◌, ◌||◌, List, [], ◌∷◌, ℤ, refl, ◌∙◌, ap, inl, inr}
use Rattle.dom_core.specs.Assignment.{entry_at}
use Rattle.dom_core.specs.Ends.{only, lies_in}
use Rattle.dom_core.specs.View.{IsCovered}
use Rattle.dom_core.specs.declared.arg.Arg.{Arg}
use Rattle.dom_core.specs.declared.var_id.VarId.{VarId}
use Rattle.dom_core.specs.declared.view.Movement.{Movement}
use Rattle.dom_core.proofs.RisesLaws.{or_true, or_left, or_right}
use Rattle.dom_core.proofs.TestLaws.{and_first, and_second, and_both, not_both}
use Rattle.kind_law.specs.Argument.{ArgHas, arg_value, arg_ends, var_of}
use Rattle.kind_law.specs.DefineLaws.{ApartLaw, ArePartsOf, PassLaw, InputWidthLaw, ValueLaw, InputLaw, RangeLaw, MonotoneLaw, OwnChangeLaw, FixesLaw}
use Rattle.kind_law.specs.Laws.{Each, EndsIn, AreAmong, points, befores, afters, Covers, FitsLaw, WidthLaw, ShrinkLaw, FixedLaw, KeepLaw, StillLaw}
use Rattle.kind_law.specs.Output.{PointLaw}
use Rattle.kind_law.proofs.ArgumentLaws.{among_new_arg, each_listed, split_arg}
use Rattle.kind_law.proofs.ChangeLaws.{change_changed, difference_has, rest_changed}
use Rattle.kind_law.proofs.EachLaws.{each_map}
use Rattle.kind_law.proofs.OutputLaws.{output_apart, output_parts, output_value, output_fixes, output_shrinks, output_fixed, output_keeps, output_stills}
use Rattle.kind_parts.specs.Relation.{number_of, truth_ends}
use Rattle.kind_parts.specs.Vars.{variables_of}
use Rattle.kind_parts.proofs.RelationLaws.{number_is_truth}
use Rattle.kind_truths.specs.Operand.{makes_true, is_certain}
use Rattle.kind_truths.specs.OperandLaws.{certain_value, refuted_value, certain_within, certain_only, turned_value, value_lies}
use Rattle.kind_truths.specs.ConnectiveLaws.{truth_lies, truths_within, never_both}
use Rattle.kind_bool.specs.Xor.{Xor, differ, is_true, surely, never, differ_surely, agree_surely, truths_by, xor_inputs, xor_vars, xor_given, xor_range, xor_own_change, xor_changed, xor_met, xor_refuted, xor_kept, gives_output}
use Rattle.kind_law.proofs.ValueLaws.{arg_within, arg_same, arg_point}

-- what holds of the inputs holds of both arguments
pub both_args : (P : VarId → Type 0) (k : Xor) → Each P (xor_inputs k) → ArgHas P k.first × ArgHas P k.second
both_args P k h =
    let all = split_arg P k.first (variables_of (k.second ∷ [])) (each_listed P (variables_of (k.first ∷ k.second ∷ [])) h) in
    (all.0, (split_arg P k.second [] all.1).0)

pub xor-input : (k : Xor) → InputLaw (xor_inputs k) (xor_given k)
xor-input k a b h =
    let args = both_args (λ u. entry_at a u.0 ≡ entry_at b u.0) k h in
    ap (λ (x : ℤ). number_of (differ (makes_true false x) (is_true a k.second))) (arg_same a b k.first args.0)
    ∙ ap (λ (x : ℤ). number_of (differ (is_true b k.first) (makes_true false x))) (arg_same a b k.second args.1)

-- truths of which it is known what is sure of them
differ_true : (p q c r d e : Bool) → (c ≡ true → p ≡ true) → (r ≡ true → p ≡ false) → (d ≡ true → q ≡ true) → (e ≡ true → q ≡ false) → ((c && e) || (r && d)) ≡ true → differ p q ≡ true
differ_true p q c r d e f g h i t = elim (or_true (c && e) (r && d) t) [
  | inl one ↦ ap (λ (x : Bool). differ x q) (f (and_first c e one)) ∙ ap not (i (and_second c e one))
  | inr other ↦ ap (λ (x : Bool). differ x q) (g (and_first r d other)) ∙ h (and_second r d other)
]

differ_false : (p q c r d e : Bool) → (c ≡ true → p ≡ true) → (r ≡ true → p ≡ false) → (d ≡ true → q ≡ true) → (e ≡ true → q ≡ false) → ((c && d) || (r && e)) ≡ true → differ p q ≡ false
differ_false p q c r d e f g h i t = elim (or_true (c && d) (r && e) t) [
  | inl one ↦ ap (λ (x : Bool). differ x q) (f (and_first c d one)) ∙ ap not (h (and_second c d one))
  | inr other ↦ ap (λ (x : Bool). differ x q) (g (and_first r e other)) ∙ i (and_second r e other)
]

pub xor-range : (k : Xor) → RangeLaw (xor_inputs k) (xor_given k) (xor_range k)
xor-range k a s h =
    let args = both_args (λ u. lies_in (entry_at a u.0) (s u.0) ≡ true) k h in
    let sure : (x : Arg) → ArgHas (λ u. lies_in (entry_at a u.0) (s u.0) ≡ true) x → surely s x ≡ true → is_true a x ≡ true =
    λ x p. certain_value false (arg_value a x) (arg_ends s x) (value_lies a s x p) in
    let unsure : (x : Arg) → ArgHas (λ u. lies_in (entry_at a u.0) (s u.0) ≡ true) x → never s x ≡ true → is_true a x ≡ false =
    λ x p. refuted_value false (arg_value a x) (arg_ends s x) (value_lies a s x p) in
    truth_lies false (differ (is_true a k.first) (is_true a k.second)) (differ_surely s k) (agree_surely s k)
    (differ_true (is_true a k.first) (is_true a k.second) (surely s k.first) (never s k.first) (surely s k.second) (never s k.second) (sure k.first args.0) (unsure k.first args.0) (sure k.second args.1) (unsure k.second args.1))
    (differ_false (is_true a k.first) (is_true a k.second) (surely s k.first) (never s k.first) (surely s k.second) (never s k.second) (sure k.first args.0) (unsure k.first args.0) (sure k.second args.1) (unsure k.second args.1))

both_within : (c d r e p q u v : Bool) → (c ≡ true → p ≡ true) → (d ≡ true → q ≡ true) → (r ≡ true → u ≡ true) → (e ≡ true → v ≡ true) → ((c && d) || (r && e)) ≡ true → ((p && q) || (u && v)) ≡ true
both_within c d r e p q u v f g h i t = elim (or_true (c && d) (r && e) t) [
  | inl one ↦ or_left (p && q) (u && v) (and_both p q (f (and_first c d one)) (g (and_second c d one)))
  | inr other ↦ or_right (p && q) (u && v) (and_both u v (h (and_first r e other)) (i (and_second r e other)))
]

-- what is sure can't differ and agree at once
never_both_ways : (c r d e : Bool) → (r ≡ true → c ≡ false) → (e ≡ true → d ≡ false) → ((c && e) || (r && d)) ≡ true → ((c && d) || (r && e)) ≡ true → ⊥
never_both_ways true true true true f g = λ h t. not_both true refl (f refl)
never_both_ways true true true false f g = λ h t. not_both true refl (f refl)
never_both_ways true true false true f g = λ h t. not_both true refl (f refl)
never_both_ways true true false false f g = λ h t. not_both true refl (f refl)
never_both_ways true false true true f g = λ h t. not_both true refl (g refl)
never_both_ways true false true false f g = λ h t. not_both false h refl
never_both_ways true false false true f g = λ h t. not_both false t refl
never_both_ways true false false false f g = λ h t. not_both false h refl
never_both_ways false true true true f g = λ h t. not_both true refl (g refl)
never_both_ways false true true false f g = λ h t. not_both false t refl
never_both_ways false true false true f g = λ h t. not_both false h refl
never_both_ways false true false false f g = λ h t. not_both false h refl
never_both_ways false false true true f g = λ h t. not_both true refl (g refl)
never_both_ways false false true false f g = λ h t. not_both false h refl
never_both_ways false false false true f g = λ h t. not_both false h refl
never_both_ways false false false false f g = λ h t. not_both false h refl

pub xor-monotone : (k : Xor) → MonotoneLaw (xor_inputs k) (xor_range k)
xor-monotone k small large w =
    let args = both_args (λ u. EndsIn (small u.0) (large u.0)) k w.parts in
    let first : EndsIn (arg_ends small k.first) (arg_ends large k.first) = arg_within small large k.first args.0 in
    let second : EndsIn (arg_ends small k.second) (arg_ends large k.second) = arg_within small large k.second args.1 in
    truths_within false (differ_surely small k) (differ_surely large k) (agree_surely small k) (agree_surely large k)
    (both_within (surely large k.first) (never large k.second) (never large k.first) (surely large k.second) (surely small k.first) (never small k.second) (never small k.first) (surely small k.second)
    (certain_within false (arg_ends small k.first) (arg_ends large k.first) first) (certain_within true (arg_ends small k.second) (arg_ends large k.second) second)
    (certain_within true (arg_ends small k.first) (arg_ends large k.first) first) (certain_within false (arg_ends small k.second) (arg_ends large k.second) second))
    (both_within (surely large k.first) (surely large k.second) (never large k.first) (never large k.second) (surely small k.first) (surely small k.second) (never small k.first) (never small k.second)
    (certain_within false (arg_ends small k.first) (arg_ends large k.first) first) (certain_within false (arg_ends small k.second) (arg_ends large k.second) second)
    (certain_within true (arg_ends small k.first) (arg_ends large k.first) first) (certain_within true (arg_ends small k.second) (arg_ends large k.second) second))
    (never_both_ways (surely small k.first) (never small k.first) (surely small k.second) (never small k.second)
    (never_both false (arg_ends small k.first) first.order) (never_both false (arg_ends small k.second) second.order))

covered_before : (k : Xor) (view : List Movement) (a b : List ℤ) → Covers view (xor_inputs k) a b → lies_in (xor_given k a) (xor_range k (befores view)) ≡ true
covered_before k view a b c =
    xor-range k a (befores view) (each_map (λ u. IsCovered view a b u.0) (λ u. lies_in (entry_at a u.0) (befores view u.0) ≡ true) (xor_inputs k) (λ u m. m.before) c)

covered_after : (k : Xor) (view : List Movement) (a b : List ℤ) → Covers view (xor_inputs k) a b → lies_in (xor_given k b) (xor_range k (afters view)) ≡ true
covered_after k view a b c =
    xor-range k b (afters view) (each_map (λ u. IsCovered view a b u.0) (λ u. lies_in (entry_at b u.0) (afters view u.0) ≡ true) (xor_inputs k) (λ u m. m.after) c)

pub xor-own_change : (k : Xor) → OwnChangeLaw (xor_inputs k) (xor_given k) (xor_own_change k)
xor-own_change k view a b c =
    difference_has (xor_given k a) (xor_given k b) (xor_range k (befores view)) (xor_range k (afters view)) (covered_before k view a b c) (covered_after k view a b c)

truths_point : (p q : Bool) → truth_ends ((p && not q) || (not p && q)) ((p && q) || (not p && not q)) ≡ only (number_of (differ p q))
truths_point true true = refl
truths_point true false = refl
truths_point false true = refl
truths_point false false = refl

surely_point : (a : List ℤ) (x : Arg) → surely (points a) x ≡ is_true a x
surely_point a x = ap (is_certain false) (arg_point a x) ∙ certain_only false (arg_value a x)

never_point : (a : List ℤ) (x : Arg) → never (points a) x ≡ not (is_true a x)
never_point a x = ap (is_certain true) (arg_point a x) ∙ certain_only true (arg_value a x) ∙ turned_value false (arg_value a x)

pub xor-point : (k : Xor) → PointLaw (xor_given k) (xor_range k)
xor-point k a =
    ap (λ (t : Bool). truths_by t (never (points a) k.first) (surely (points a) k.second) (never (points a) k.second)) (surely_point a k.first)
    ∙ ap (λ (t : Bool). truths_by (is_true a k.first) t (surely (points a) k.second) (never (points a) k.second)) (never_point a k.first)
    ∙ ap (λ (t : Bool). truths_by (is_true a k.first) (not (is_true a k.first)) t (never (points a) k.second)) (surely_point a k.second)
    ∙ ap (λ (t : Bool). truths_by (is_true a k.first) (not (is_true a k.first)) (is_true a k.second) t) (never_point a k.second)
    ∙ truths_point (is_true a k.first) (is_true a k.second)

-- ---- the output

pub xor-apart : (k : Xor) → gives_output k ≡ true → ApartLaw (var_of k.output) (xor_inputs k)
xor-apart k = output_apart k.output (xor_inputs k)

pub xor-parts : (k : Xor) → gives_output k ≡ true → ArePartsOf (var_of k.output) (xor_inputs k) (xor_vars k)
xor-parts k = output_parts k.output (xor_inputs k)

pub xor-value : (k : Xor) → gives_output k ≡ true → ValueLaw (var_of k.output) (λ s. Unit {0}) (xor_given k) (xor_met k)
xor-value k = output_value (xor_inputs k) (λ s. Unit {0}) (xor_given k) k.output

pub xor-fixes : (k : Xor) → gives_output k ≡ true → FixesLaw (var_of k.output) (xor_inputs k) (λ s. Unit {0}) (xor_given k) (xor_refuted k)
xor-fixes k = output_fixes (xor_inputs k) (λ s. Unit {0}) (xor_given k) (xor_range k) k.output (xor-monotone k) (xor-point k)

-- ---- the laws of a kind

pub xor-shrink : (k : Xor) → ShrinkLaw (λ v. false) (xor_vars k) (xor_refuted k)
xor-shrink k = output_shrinks (xor_inputs k) (xor_range k) k.output (xor-monotone k)

pub xor-fixed : (k : Xor) → FixedLaw (xor_refuted k) (xor_met k)
xor-fixed k = output_fixed (xor_given k) (xor_range k) k.output (xor-point k)

pub xor-keep : (k : Xor) → KeepLaw (xor_vars k) (xor_kept k) (xor_met k)
xor-keep k =
    output_keeps true (xor_inputs k) (xor_given k) (xor_range k) (xor_changed k) k.output (xor-range k)
    (change_changed (xor_inputs k) (xor_given k) (xor_range k) (xor_own_change k) (xor-input k) (xor-range k) (xor-own_change k))
    (λ _ b. number_is_truth (differ (is_true b k.first) (is_true b k.second)))

pub xor-still : (k : Xor) → StillLaw (xor_vars k) (xor_kept k)
xor-still k =
    output_stills true (xor_inputs k) (xor_range k) (xor_changed k) k.output (rest_changed (xor_inputs k) (xor_range k) (xor_own_change k))

-- ---- it has no sum or product

pub xor-fits : (k : Xor) → FitsLaw (xor_vars k) (λ s. Unit {0})
xor-fits k small large within fits = tt

pub xor-width : (k : Xor) → WidthLaw (xor_vars k) (λ s. 0) (λ s. Unit {0})
xor-width k s small size = tt

pub xor-measured : (k : Xor) → AreAmong [] (xor_vars k)
xor-measured k = tt

pub xor-among : (k : Xor) → AreAmong (xor_inputs k) (xor_vars k)
xor-among k = among_new_arg (xor_inputs k) k.output

pub xor-inputs : (k : Xor) → FitsLaw (xor_inputs k) (λ s. Unit {0})
xor-inputs k small large within fits = tt

pub xor-input_width : (k : Xor) → gives_output k ≡ true → InputWidthLaw (xor_inputs k) (λ s. 0) (λ s. true) (λ s. Unit {0})
xor-input_width k d s small size total = tt

pub xor-pass : (k : Xor) → gives_output k ≡ true → PassLaw (λ s. Unit {0}) (λ s. true) (λ s. Unit {0})
xor-pass k d s fits total = tt

pub xor-measured_inputs : (k : Xor) → gives_output k ≡ true → AreAmong [] (xor_inputs k)
xor-measured_inputs k d = tt
