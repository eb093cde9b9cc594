-- What follows for a kind whose output has the value of a function, from the laws of the function.
use Rattle.std.proofs.Common.{◌≡◌, Bool, true, false, ◌&&◌, ◌||◌, if◌then◌else◌, List, [], ◌∷◌, ◌++◌, ℕ, ℤ, pos, ◌-ℤ◌, ◌≤ℤ◌, refl, sym, ◌∙◌, ap, subst, arith}
use Rattle.std.proofs.lemmas.Int.{ints}
use Rattle.std.specs.Ordering.{int_eq}
use Rattle.dom_core.specs.Assignment.{entry_at}
use Rattle.dom_core.specs.Ends.{Ends, only, lies_in}
use Rattle.dom_core.specs.View.{IsCovered, movement_at}
use Rattle.dom_core.proofs.RisesLaws.{int_eq_same}
use Rattle.dom_core.proofs.TestLaws.{and_first, and_second, and_both, not_true}
use Rattle.dom_core.specs.declared.arg.Arg.{Arg}
use Rattle.dom_core.specs.declared.arg.Arg.TheVariants.{Var, Const}
use Rattle.dom_core.specs.declared.var_id.VarId.{VarId}
use Rattle.dom_core.specs.declared.view.Movement.{Movement}
use Rattle.dom_cells.specs.Cell.{lo_of, hi_of, ends_of}
use Rattle.dom_cells.specs.declared.start.Start.{Start}
use Rattle.dom_cells.proofs.BoxLaws.{sane-ends}
use Rattle.kind_law.specs.Argument.{ArgHas, arg_value, arg_ends, arg_movement, is_listed, var_of, with_new_arg}
use Rattle.kind_law.specs.DefineLaws.{ApartLaw, ArePartsOf, ValueLaw, RangeLaw, RestLaw, MonotoneLaw, ChangeLaw, FixesLaw}
use Rattle.kind_law.specs.Function.{have_none, are_one, truth_kept}
use Rattle.kind_law.specs.FunctionLaws.{none_smaller, none_only, none_points, function_keeps}
use Rattle.kind_law.specs.Laws.{Each, EndsIn, AreWithin, hulls, points, afters, ShrinkLaw, FixedLaw, KeepLaw, StillLaw, is_still, all_still}
use Rattle.kind_law.specs.Output.{PointLaw, BitLaw, output_met, output_refuted, output_kept, moved, is_apart}
use Rattle.kind_law.proofs.ArgumentLaws.{each_new_arg, parts_last, unlisted_apart}
use Rattle.kind_law.proofs.BoundLaws.{smaller-within}
use Rattle.dom_core.proofs.EndsLaws.{lies}
use Rattle.kind_law.proofs.EachLaws.{each_map}
use Rattle.kind_law.proofs.ValueLaws.{arg_point, arg_within}

-- ---- the laws of a kind

pub output_shrinks : (inputs : List VarId) (ranged : (ℕ → Ends) → Ends) (x : Arg) → MonotoneLaw inputs ranged → ShrinkLaw (λ v. false) (with_new_arg inputs x) (output_refuted ranged x)
output_shrinks inputs ranged x law small large s r =
    let w : AreWithin (with_new_arg inputs x) (hulls small) (hulls large) = smaller-within (λ v. false) (with_new_arg inputs x) small large s in
    let both = each_new_arg (λ u. EndsIn (hulls small u.0) (hulls large u.0)) inputs x w.parts in
    none_smaller (ranged (hulls large)) (arg_ends (hulls large) x) (ranged (hulls small)) (arg_ends (hulls small) x)
    (law (hulls small) (hulls large) (record { parts = both.0 })) (arg_within (hulls small) (hulls large) x both.1) r

pub output_fixed : (given : List ℤ → ℤ) (ranged : (ℕ → Ends) → Ends) (x : Arg) → PointLaw given ranged → FixedLaw (output_refuted ranged x) (output_met given x)
output_fixed given ranged x law a =
    ap (λ (e : Ends). have_none e (arg_ends (points a) x)) (law a) ∙ ap (have_none (only (given a))) (arg_point a x) ∙ none_points (given a) (arg_value a x)

arg_before : (view : List Movement) (a b : List ℤ) (x : Arg) → ArgHas (λ u. IsCovered view a b u.0) x → lies_in (arg_value a x) (arg_movement view x).before ≡ true
arg_before view a b (Var u) h = h.before
arg_before view a b (Const c) h = lies c (only c) (omega (arith, ints)) (omega (arith, ints))

arg_after : (view : List Movement) (a b : List ℤ) (x : Arg) → ArgHas (λ u. IsCovered view a b u.0) x → lies_in (arg_value b x) (arg_movement view x).after ≡ true
arg_after view a b (Var u) h = h.after
arg_after view a b (Const c) h = lies c (only c) (omega (arith, ints)) (omega (arith, ints))

arg_moved : (view : List Movement) (a b : List ℤ) (x : Arg) → ArgHas (λ u. IsCovered view a b u.0) x → lies_in (arg_value b x -ℤ arg_value a x) (arg_movement view x).change ≡ true
arg_moved view a b (Var u) h = h.change
arg_moved view a b (Const c) h = lies (c -ℤ c) (only (pos 0)) (omega (arith, ints)) (omega (arith, ints))

pub output_keeps : (two : Bool) (inputs : List VarId) (given : List ℤ → ℤ) (ranged : (ℕ → Ends) → Ends) (changed : List Movement → Ends) (x : Arg)
    → RangeLaw inputs given ranged → ChangeLaw inputs given changed → (two ≡ true → BitLaw given) → KeepLaw (with_new_arg inputs x) (output_kept two ranged changed x) (output_met given x)
output_keeps two inputs given ranged changed x range change bits view a b c h m =
    let both = each_new_arg (λ u. IsCovered view a b u.0) inputs x c in
    function_keeps two (moved ranged changed view) (arg_movement view x) (given a) (given b) (arg_value a x) (arg_value b x)
    (record {
      value_after = range b (afters view) (each_map (λ u. IsCovered view a b u.0) (λ u. lies_in (entry_at b u.0) (afters view u.0) ≡ true) inputs (λ u m. m.after) both.0);
      value_change = change view a b both.0;
      output_before = arg_before view a b x both.1;
      output_after = arg_after view a b x both.1;
      output_change = arg_moved view a b x both.1;
    }) (λ e. bits e b) h m

-- a change that is still is 0
pub still_ends : (e : Ends) → is_still e ≡ true → e ≡ only (pos 0)
still_ends e h =
    ap (λ (x : ℤ). let d : Ends = record { lo = x; hi = e.hi } in d) (int_eq_same e.lo (pos 0) (and_first (int_eq e.lo (pos 0)) (int_eq e.hi (pos 0)) h))
    ∙ ap (λ (x : ℤ). let d : Ends = record { lo = pos 0; hi = x } in d) (int_eq_same e.hi (pos 0) (and_second (int_eq e.lo (pos 0)) (int_eq e.hi (pos 0)) h))

-- each variable that a view doesn't move changes by 0
pub each_still : (vars : List VarId) (view : List Movement) → all_still vars view ≡ true → Each (λ u. (movement_at view u.0).change ≡ only (pos 0)) vars
each_still [] view h = tt
each_still (u ∷ us) view h = (
  still_ends (movement_at view u.0).change (and_first (is_still (movement_at view u.0).change) (all_still us view) h),
  each_still us view (and_second (is_still (movement_at view u.0).change) (all_still us view) h),
)

pub still_each : (vars : List VarId) (view : List Movement) → Each (λ u. (movement_at view u.0).change ≡ only (pos 0)) vars → all_still vars view ≡ true
still_each [] view h = refl
still_each (u ∷ us) view h = and_both (is_still (movement_at view u.0).change) (all_still us view) (ap is_still h.0) (still_each us view h.1)

arg_still : (view : List Movement) (x : Arg) → ArgHas (λ u. (movement_at view u.0).change ≡ only (pos 0)) x → (arg_movement view x).change ≡ only (pos 0)
arg_still view (Var u) h = h
arg_still view (Const c) h = refl

-- a view that moves no variable keeps the kind, where the function's change is then 0
pub output_stills : (two : Bool) (inputs : List VarId) (ranged : (ℕ → Ends) → Ends) (changed : List Movement → Ends) (x : Arg) → RestLaw inputs changed
    → StillLaw (with_new_arg inputs x) (output_kept two ranged changed x)
output_stills two inputs ranged changed x rest view h =
    let both = each_new_arg (λ u. (movement_at view u.0).change ≡ only (pos 0)) inputs x (each_still (with_new_arg inputs x) view h) in
    ap (λ (e : Ends). are_one e (arg_movement view x).change || (are_one (ranged (afters view)) (arg_movement view x).after || (two && truth_kept e (arg_movement view x))))
    (rest view (still_each inputs view both.0))
    ∙ ap (λ (e : Ends). are_one (only (pos 0)) e || (are_one (ranged (afters view)) (arg_movement view x).after || (two && truth_kept (only (pos 0)) (arg_movement view x)))) (arg_still view x both.1)

-- ---- the laws of a kind that defines

value_at_var : (x : Arg) (inputs : List VarId) (a : List ℤ) → is_apart x inputs ≡ true → arg_value a x ≡ entry_at a (var_of x).0
value_at_var (Var u) inputs a h = refl
value_at_var (Const c) inputs a h = absurd (cc)

ends_at_var : (x : Arg) (inputs : List VarId) (b : ℕ → Start) → is_apart x inputs ≡ true → arg_ends (hulls b) x ≡ ends_of (b (var_of x).0)
ends_at_var (Var u) inputs b h = refl
ends_at_var (Const c) inputs b h = absurd (cc)

pub output_apart : (x : Arg) (inputs : List VarId) → is_apart x inputs ≡ true → ApartLaw (var_of x) inputs
output_apart (Var u) inputs h = unlisted_apart u inputs (not_true (is_listed u inputs) h)
output_apart (Const c) inputs h = absurd (cc)

-- the variables are the inputs, and the output at their end
pub output_parts : (x : Arg) (inputs : List VarId) → is_apart x inputs ≡ true → ArePartsOf (var_of x) inputs (with_new_arg inputs x)
output_parts (Var u) inputs h =
    subst (ArePartsOf u inputs) (sym (ap (λ (t : Bool). if t then inputs else inputs ++ u ∷ []) (not_true (is_listed u inputs) h))) (parts_last u inputs)
output_parts (Const c) inputs h = absurd (cc)

pub output_value : (inputs : List VarId) (fits : (ℕ → Ends) → Type 0) (given : List ℤ → ℤ) (x : Arg) → is_apart x inputs ≡ true → ValueLaw (var_of x) fits given (output_met given x)
output_value inputs fits given x apart a f = ap (λ (y : ℤ). int_eq y (given a)) (value_at_var x inputs a apart)

same : (p q : Ends) → EndsIn p q → EndsIn q p → p ≡ q
same p q e f =
    let lo : p.lo ≡ q.lo = (let a : q.lo ≤ℤ p.lo = e.low in let b : p.lo ≤ℤ q.lo = f.low in omega (arith, ints)) in
    let hi : p.hi ≡ q.hi = (let a : p.hi ≤ℤ q.hi = e.high in let b : q.hi ≤ℤ p.hi = f.high in omega (arith, ints)) in
    ap (λ (y : ℤ). let d : Ends = record { lo = y; hi = p.hi } in d) lo ∙ ap (λ (y : ℤ). let d : Ends = record { lo = q.lo; hi = y } in d) hi

fixed_within : (b : ℕ → Start) (a : List ℤ) (u : VarId) → (lo_of (b u.0) ≡ entry_at a u.0) × (hi_of (b u.0) ≡ entry_at a u.0) → EndsIn (hulls b u.0) (points a u.0)
fixed_within b a u h =
    let l : lo_of (b u.0) ≡ entry_at a u.0 = h.0 in
    let g : hi_of (b u.0) ≡ entry_at a u.0 = h.1 in
    record { low = omega (arith, ints); order = omega (arith, ints); high = omega (arith, ints) }

within_fixed : (b : ℕ → Start) (a : List ℤ) (u : VarId) → (lo_of (b u.0) ≡ entry_at a u.0) × (hi_of (b u.0) ≡ entry_at a u.0) → EndsIn (points a u.0) (hulls b u.0)
within_fixed b a u h =
    let l : lo_of (b u.0) ≡ entry_at a u.0 = h.0 in
    let g : hi_of (b u.0) ≡ entry_at a u.0 = h.1 in
    record { low = omega (arith, ints); order = omega (arith, ints); high = omega (arith, ints) }

pub output_fixes : (inputs : List VarId) (fits : (ℕ → Ends) → Type 0) (given : List ℤ → ℤ) (ranged : (ℕ → Ends) → Ends) (x : Arg) → MonotoneLaw inputs ranged → PointLaw given ranged
    → is_apart x inputs ≡ true → FixesLaw (var_of x) inputs fits given (output_refuted ranged x)
output_fixes inputs fits given ranged x monotone point apart b a fixed all f sane =
    let down : EndsIn (ranged (hulls b)) (ranged (points a)) = monotone (hulls b) (points a)
    (record { parts = each_map (λ u. (lo_of (b u.0) ≡ entry_at a u.0) × (hi_of (b u.0) ≡ entry_at a u.0)) (λ u. EndsIn (hulls b u.0) (points a u.0)) inputs (fixed_within b a) fixed }) in
    let up : EndsIn (ranged (points a)) (ranged (hulls b)) = monotone (points a) (hulls b)
    (record { parts = each_map (λ u. (lo_of (b u.0) ≡ entry_at a u.0) × (hi_of (b u.0) ≡ entry_at a u.0)) (λ u. EndsIn (points a u.0) (hulls b u.0)) inputs (within_fixed b a) fixed }) in
    ap (λ (e : Ends). have_none e (arg_ends (hulls b) x)) (same (ranged (hulls b)) (ranged (points a)) down up ∙ point a)
    ∙ ap (have_none (only (given a))) (ends_at_var x inputs b apart)
    ∙ none_only (given a) (ends_of (b (var_of x).0)) (sane-ends (b (var_of x).0) sane)
