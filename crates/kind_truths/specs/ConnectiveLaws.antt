-- The laws of truths of disjunctions.
use Rattle.std.proofs.Common.{◌≡◌, Bool, true, false, not, List, [], ℕ, pos, ◌-ℤ◌, ◌≤ℤ◌, refl, ◌∙◌, ap, arith}
use Rattle.std.proofs.lemmas.Int.{ints}
use Rattle.std.specs.List.{list_any, list_all}
use Rattle.dom_core.specs.Ends.{Ends, only, lies_in}
use Rattle.dom_core.proofs.TestLaws.{le_true, false_le, not_both, not_true}
use Rattle.kind_law.specs.Argument.{ArgHas, arg_ends, var_of}
use Rattle.kind_law.specs.DefineLaws.{ApartLaw, ArePartsOf, PassLaw, InputWidthLaw, ValueLaw, InputLaw, RangeLaw, MonotoneLaw, OwnChangeLaw, FixesLaw}
use Rattle.kind_law.specs.Laws.{EndsIn, AreAmong, AreWithin, points, FitsLaw, WidthLaw, ShrinkLaw, FixedLaw, KeepLaw, StillLaw}
use Rattle.kind_law.specs.Output.{PointLaw}
use Rattle.kind_law.proofs.ArgumentLaws.{among_new_arg}
use Rattle.kind_law.proofs.ChangeLaws.{change_changed, rest_changed}
use Rattle.kind_law.proofs.OutputLaws.{output_apart, output_parts, output_value, output_fixes, output_shrinks, output_fixed, output_keeps, output_stills}
use Rattle.kind_parts.specs.Relation.{number_of}
use Rattle.kind_parts.proofs.RelationLaws.{number_is_truth}
use Rattle.kind_truths.specs.Operand.{is_certain, operand_certain, operand_refuted, operand_falls, operand_rises, operand_vars, turned}
use Rattle.kind_truths.specs.BoolClause.{clause_met}
use Rattle.kind_truths.specs.BoolClauseLaws.{certain_met, refuted_unmet, certain_smaller, refuted_smaller, certain_point, refuted_point, falls_none, rises_none, met_same}
use Rattle.kind_truths.specs.OperandLaws.{of_vars, none_passes}
use Rattle.kind_truths.specs.Connective.{Connective, truths_of, move_ends, moves_of, connective_inputs, connective_vars, connective_given, connective_range, connective_own_change, connective_changed, connective_met, connective_refuted, connective_kept, defines_output}
use Rattle.kind_truths.specs.declared.operand.Operand.{Operand}
use Rattle.kind_law.proofs.ValueLaws.{arg_within}

-- ---- truths of tests

-- a truth lies in its truths, where what is certain holds and what is refuted fails
pub truth_lies : (f t certain refuted : Bool) → (certain ≡ true → t ≡ true) → (refuted ≡ true → t ≡ false) → lies_in (number_of (turned f t)) (truths_of f certain refuted) ≡ true
truth_lies f true certain true h g = absurd (not_both true refl (g refl))
truth_lies f false true refuted h g = absurd (not_both false (h refl) refl)
truth_lies false true true false h g = refl
truth_lies false true false false h g = refl
truth_lies false false false true h g = refl
truth_lies false false false false h g = refl
truth_lies true true true false h g = refl
truth_lies true true false false h g = refl
truth_lies true false false true h g = refl
truth_lies true false false false h g = refl

pub connective-input : (k : Connective) → InputLaw (connective_inputs k) (connective_given k)
connective-input k a b h = ap (λ (t : Bool). number_of (turned k.flipped t)) (met_same k.operands a b h)

pub connective-range : (k : Connective) → RangeLaw (connective_inputs k) (connective_given k) (connective_range k)
connective-range k a s h =
    truth_lies k.flipped (clause_met k.operands a) (list_any (operand_certain s) k.operands) (list_all (operand_refuted s) k.operands)
    (certain_met k.operands a s h) (refuted_unmet k.operands a s h)

-- smaller truths lie in larger ones, where more is certain and more refuted of them, and not both
pub truths_within : (f c d r q : Bool) → (d ≡ true → c ≡ true) → (q ≡ true → r ≡ true) → (c ≡ true → r ≡ true → ⊥) → EndsIn (truths_of f c r) (truths_of f d q)
truths_within f true d true q h g both = absurd (both refl refl)
truths_within f false true r q h g both = absurd (not_both false (h refl) refl)
truths_within f c d false true h g both = absurd (not_both false (g refl) refl)
truths_within false false false false false h g both = record { low = omega (arith, ints); order = omega (arith, ints); high = omega (arith, ints) }
truths_within false false false true false h g both = record { low = omega (arith, ints); order = omega (arith, ints); high = omega (arith, ints) }
truths_within false false false true true h g both = record { low = omega (arith, ints); order = omega (arith, ints); high = omega (arith, ints) }
truths_within false true false false false h g both = record { low = omega (arith, ints); order = omega (arith, ints); high = omega (arith, ints) }
truths_within false true true false false h g both = record { low = omega (arith, ints); order = omega (arith, ints); high = omega (arith, ints) }
truths_within true false false false false h g both = record { low = omega (arith, ints); order = omega (arith, ints); high = omega (arith, ints) }
truths_within true false false true false h g both = record { low = omega (arith, ints); order = omega (arith, ints); high = omega (arith, ints) }
truths_within true false false true true h g both = record { low = omega (arith, ints); order = omega (arith, ints); high = omega (arith, ints) }
truths_within true true false false false h g both = record { low = omega (arith, ints); order = omega (arith, ints); high = omega (arith, ints) }
truths_within true true true false false h g both = record { low = omega (arith, ints); order = omega (arith, ints); high = omega (arith, ints) }

pub never_both : (n : Bool) (e : Ends) → e.lo ≤ℤ e.hi → is_certain (not n) e ≡ true → is_certain n e ≡ false
never_both false e order h =
    let none : e.hi ≤ℤ pos 0 = le_true e.hi (pos 0) h in
    false_le (pos 1) e.lo (omega (arith, ints))
never_both true e order h =
    let one : pos 1 ≤ℤ e.lo = le_true (pos 1) e.lo h in
    false_le e.hi (pos 0) (omega (arith, ints))

-- over intervals in order an operand isn't both certain and refuted
pub never_certain : (os : List Operand) (small large : ℕ → Ends) → AreWithin (operand_vars os) small large → list_all (operand_refuted small) os ≡ true → list_any (operand_certain small) os ≡ false
never_certain os small large w =
    none_passes (operand_refuted small) (operand_certain small) (λ o. ArgHas (λ u. EndsIn (small u.0) (large u.0)) o.arg) os
    (λ o p r. never_both o.negated (arg_ends small o.arg) (arg_within small large o.arg p).order r) (of_vars (λ u. EndsIn (small u.0) (large u.0)) os w.parts)

pub connective-monotone : (k : Connective) → MonotoneLaw (connective_inputs k) (connective_range k)
connective-monotone k small large w =
    truths_within k.flipped (list_any (operand_certain small) k.operands) (list_any (operand_certain large) k.operands)
    (list_all (operand_refuted small) k.operands) (list_all (operand_refuted large) k.operands)
    (certain_smaller k.operands small large w) (refuted_smaller k.operands small large w)
    (λ c r. not_both (list_any (operand_certain small) k.operands) c (never_certain k.operands small large w r))

was_true : (b : Bool) → not b ≡ false → b ≡ true
was_true true h = refl
was_true false h = absurd (cc)

-- the change of a truth lies between -1 and 1, at 0 or above where it can't fall and at 0 or below where it can't rise
move_has : (t u falls rises : Bool) → (falls ≡ false → t ≡ true → u ≡ true) → (rises ≡ false → t ≡ false → u ≡ false) → lies_in (number_of u -ℤ number_of t) (move_ends falls rises) ≡ true
move_has false false false false h g = refl
move_has false false false true h g = refl
move_has false false true false h g = refl
move_has false false true true h g = refl
move_has false true false false h g = absurd (not_both true refl (g refl refl))
move_has false true false true h g = refl
move_has false true true false h g = absurd (not_both true refl (g refl refl))
move_has false true true true h g = refl
move_has true false false false h g = absurd (not_both false (h refl refl) refl)
move_has true false false true h g = absurd (not_both false (h refl refl) refl)
move_has true false true false h g = refl
move_has true false true true h g = refl
move_has true true false false h g = refl
move_has true true false true h g = refl
move_has true true true false h g = refl
move_has true true true true h g = refl

moves_have : (f t u falls rises : Bool) → (falls ≡ false → t ≡ true → u ≡ true) → (rises ≡ false → t ≡ false → u ≡ false)
    → lies_in (number_of (turned f u) -ℤ number_of (turned f t)) (moves_of f falls rises) ≡ true
moves_have false t u falls rises h g = move_has t u falls rises h g
moves_have true t u falls rises h g = move_has (not t) (not u) rises falls (λ e n. ap not (g e (not_true t n))) (λ e n. ap not (h e (was_true t n)))

pub connective-own_change : (k : Connective) → OwnChangeLaw (connective_inputs k) (connective_given k) (connective_own_change k)
connective-own_change k view a b c =
    moves_have k.flipped (clause_met k.operands a) (clause_met k.operands b) (list_any (operand_falls view) k.operands) (list_any (operand_rises view) k.operands)
    (falls_none k.operands view a b c) (rises_none k.operands view a b c)

truths_point : (f t : Bool) → truths_of f t (not t) ≡ only (number_of (turned f t))
truths_point false false = refl
truths_point false true = refl
truths_point true false = refl
truths_point true true = refl

pub connective-point : (k : Connective) → PointLaw (connective_given k) (connective_range k)
connective-point k a =
    ap (λ (c : Bool). truths_of k.flipped c (list_all (operand_refuted (points a)) k.operands)) (certain_point k.operands a)
    ∙ ap (truths_of k.flipped (clause_met k.operands a)) (refuted_point k.operands a) ∙ truths_point k.flipped (clause_met k.operands a)

-- ---- the output

pub connective-apart : (k : Connective) → defines_output k ≡ true → ApartLaw (var_of k.output) (connective_inputs k)
connective-apart k = output_apart k.output (connective_inputs k)

pub connective-parts : (k : Connective) → defines_output k ≡ true → ArePartsOf (var_of k.output) (connective_inputs k) (connective_vars k)
connective-parts k = output_parts k.output (connective_inputs k)

pub connective-value : (k : Connective) → defines_output k ≡ true → ValueLaw (var_of k.output) (λ s. Unit {0}) (connective_given k) (connective_met k)
connective-value k = output_value (connective_inputs k) (λ s. Unit {0}) (connective_given k) k.output

pub connective-fixes : (k : Connective) → defines_output k ≡ true → FixesLaw (var_of k.output) (connective_inputs k) (λ s. Unit {0}) (connective_given k) (connective_refuted k)
connective-fixes k = output_fixes (connective_inputs k) (λ s. Unit {0}) (connective_given k) (connective_range k) k.output (connective-monotone k) (connective-point k)

-- ---- the laws of a kind

pub connective-shrink : (k : Connective) → ShrinkLaw (λ v. false) (connective_vars k) (connective_refuted k)
connective-shrink k = output_shrinks (connective_inputs k) (connective_range k) k.output (connective-monotone k)

pub connective-fixed : (k : Connective) → FixedLaw (connective_refuted k) (connective_met k)
connective-fixed k = output_fixed (connective_given k) (connective_range k) k.output (connective-point k)

pub connective-keep : (k : Connective) → KeepLaw (connective_vars k) (connective_kept k) (connective_met k)
connective-keep k =
    output_keeps true (connective_inputs k) (connective_given k) (connective_range k) (connective_changed k) k.output (connective-range k)
    (change_changed (connective_inputs k) (connective_given k) (connective_range k) (connective_own_change k) (connective-input k) (connective-range k) (connective-own_change k))
    (λ _ b. number_is_truth (turned k.flipped (clause_met k.operands b)))

pub connective-still : (k : Connective) → StillLaw (connective_vars k) (connective_kept k)
connective-still k =
    output_stills true (connective_inputs k) (connective_range k) (connective_changed k) k.output (rest_changed (connective_inputs k) (connective_range k) (connective_own_change k))

-- ---- it has no sum or product

pub connective-fits : (k : Connective) → FitsLaw (connective_vars k) (λ s. Unit {0})
connective-fits k small large within fits = tt

pub connective-width : (k : Connective) → WidthLaw (connective_vars k) (λ s. 0) (λ s. Unit {0})
connective-width k s small size = tt

pub connective-measured : (k : Connective) → AreAmong [] (connective_vars k)
connective-measured k = tt

pub connective-among : (k : Connective) → AreAmong (connective_inputs k) (connective_vars k)
connective-among k = among_new_arg (connective_inputs k) k.output

pub connective-inputs : (k : Connective) → FitsLaw (connective_inputs k) (λ s. Unit {0})
connective-inputs k small large within fits = tt

pub connective-input_width : (k : Connective) → defines_output k ≡ true → InputWidthLaw (connective_inputs k) (λ s. 0) (λ s. true) (λ s. Unit {0})
connective-input_width k d s small size total = tt

pub connective-pass : (k : Connective) → defines_output k ≡ true → PassLaw (λ s. Unit {0}) (λ s. true) (λ s. Unit {0})
connective-pass k d s fits total = tt

pub connective-measured_inputs : (k : Connective) → defines_output k ≡ true → AreAmong [] (connective_inputs k)
connective-measured_inputs k d = tt
