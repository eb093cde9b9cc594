-- The laws of restrictions.
use Rattle.std.proofs.Common.{◌≡◌, true, not, ◌||◌, List, [], ℕ, ℤ, pos, ◌-ℤ◌, int_le, refl, ◌∙◌, ap, arith}
use Rattle.dom_core.specs.declared.set.Set.{Set}
use Rattle.dom_core.specs.declared.set.Set.TheVariants.{Range, Values}
use Rattle.dom_core.proofs.RisesLaws.{or_right}
use Rattle.dom_core.specs.View.{movement_at}
use Rattle.std.proofs.lemmas.Int.{ints}
use Rattle.dom_core.specs.Ends.{Ends, only, lies_in}
use Rattle.dom_core.specs.declared.arg.Arg.{Arg}
use Rattle.dom_core.specs.declared.arg.Arg.TheVariants.{Var, Const}
use Rattle.dom_core.specs.declared.view.Movement.{Movement}
use Rattle.kind_law.proofs.OutputLaws.{still_ends}
use Rattle.dom_core.proofs.TestLaws.{not_true, not_false, not_both, and_first, and_both}
use Rattle.dom_cells.specs.Cell.{has_of}
use Rattle.dom_cells.specs.declared.start.Start.{Start}
use Rattle.dom_cells.specs.declared.start.Start.TheVariants.{Span}
use Rattle.kind_law.specs.Laws.{IsSmaller, point, Covers, AreAmong, FitsLaw, WidthLaw, ShrinkLaw, FixedLaw, KeepLaw, StillLaw, is_still, all_still}
use Rattle.kind_law.specs.Argument.{arg_vars, arg_value, arg_left, arg_movement}
use Rattle.kind_parts.specs.Set.{set_meets, set_keeps}
use Rattle.kind_parts.proofs.SetLaws.{Common, between, meets_common, common_meets, meets_point, set_stays}
use Rattle.kind_arith.specs.InSet.{Restriction, restricted_vars, restriction_met, restriction_refuted, restriction_kept}

pub restriction-fits : (k : Restriction) → FitsLaw (restricted_vars k) (λ s. Unit {0})
restriction-fits k small large within fits = tt

pub restriction-width : (k : Restriction) → WidthLaw (restricted_vars k) (λ s. 0) (λ s. Unit {0})
restriction-width k s small size = tt

pub restriction-measured : (k : Restriction) → AreAmong [] (restricted_vars k)
restriction-measured k = tt

-- a value left in a smaller box is left in a larger one
left_within : (x : Arg) (small large : ℕ → Start) → IsSmaller (λ v. true) (arg_vars x) small large
    → (v : ℤ) → has_of (arg_left small x) v ≡ true → has_of (arg_left large x) v ≡ true
left_within (Var u) small large p v h = p.parts.0.values refl v h
left_within (Const c) small large p v h = h

pub restriction-shrink : (k : Restriction) → ShrinkLaw (λ v. true) (restricted_vars k) (restriction_refuted k)
restriction-shrink k small large p h = not_false (set_meets k.set (arg_left small k.arg)) (λ t.
    (let m : Common k.set (arg_left small k.arg) = meets_common k.set (arg_left small k.arg) t in
    not_both (set_meets k.set (arg_left large k.arg))
    (common_meets k.set (arg_left large k.arg) (record { value = m.value; in_set = m.in_set; in_cell = left_within k.arg small large p m.value m.in_cell }))
    (not_true (set_meets k.set (arg_left large k.arg)) h)))

left_point : (a : List ℤ) (x : Arg) → arg_left (point a) x ≡ Span (arg_value a x) (arg_value a x)
left_point a (Var u) = refl
left_point a (Const c) = refl

pub restriction-fixed : (k : Restriction) → FixedLaw (restriction_refuted k) (restriction_met k)
restriction-fixed k a = ap not (ap (set_meets k.set) (left_point a k.arg) ∙ meets_point k.set (arg_value a k.arg))

value_after : (view : List Movement) (a b : List ℤ) (x : Arg) → Covers view (arg_vars x) a b → lies_in (arg_value b x) (arg_movement view x).after ≡ true
value_after view a b (Var u) c = c.0.after
value_after view a b (Const v) c = between v v v (omega (arith, ints)) (omega (arith, ints))

value_change : (view : List Movement) (a b : List ℤ) (x : Arg) → Covers view (arg_vars x) a b
    → lies_in (arg_value b x -ℤ arg_value a x) (arg_movement view x).change ≡ true
value_change view a b (Var u) c = c.0.change
value_change view a b (Const v) c = between (pos 0) (v -ℤ v) (pos 0) (omega (arith, ints)) (omega (arith, ints))

pub restriction-keep : (k : Restriction) → KeepLaw (restricted_vars k) (restriction_kept k) (restriction_met k)
restriction-keep k view a b covers kept met =
    set_stays k.set (arg_movement view k.arg).change (arg_movement view k.arg).after (arg_value a k.arg) (arg_value b k.arg)
    (value_after view a b k.arg covers) (value_change view a b k.arg covers) kept met

-- ---- a view that doesn't move the argument

zero_keeps : (set : Set) (after : Ends) → set_keeps set (only (pos 0)) after ≡ true
zero_keeps (Range lo hi) after =
    and_both (int_le after.hi hi || true) (int_le lo after.lo || true) (or_right (int_le after.hi hi) true refl) (or_right (int_le lo after.lo) true refl)
zero_keeps (Values xs) after = refl

still_change : (view : List Movement) (x : Arg) → all_still (arg_vars x) view ≡ true → (arg_movement view x).change ≡ only (pos 0)
still_change view (Var u) h = still_ends (movement_at view u.0).change (and_first (is_still (movement_at view u.0).change) true h)
still_change view (Const c) h = refl

pub restriction-still : (k : Restriction) → StillLaw (restricted_vars k) (restriction_kept k)
restriction-still k view h =
    ap (λ (e : Ends). set_keeps k.set e (arg_movement view k.arg).after) (still_change view k.arg h) ∙ zero_keeps k.set (arg_movement view k.arg).after
