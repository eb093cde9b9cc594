-- The change of a defined variable holds every change that its inputs can bring.
use Rattle.std.proofs.Common.{◌≡◌, ℕ, zero, suc, ◌+◌, ◌<◌, Bool, true, false, ◌&&◌, List, [], ◌∷◌, length, drop, get_or, ℤ, pos, ◌-ℤ◌, ◌≤ℤ◌, ◌<ℤ◌, int_le, if◌then◌else◌, refl, sym, ◌∙◌, ap, subst, arith}
use Rattle.std.proofs.lemmas.Int.{ints, clamps}
use Rattle.std.proofs.lemmas.List.{drop_more}
use Rattle.std.specs.Ordering.{int_eq}
use Rattle.dom_core.specs.Assignment.{entry_at}
use Rattle.dom_core.specs.Ends.{Ends, lies_in, only, meet_ends, difference_ends}
use Rattle.dom_core.specs.View.{movement_at, IsCovered}
use Rattle.dom_core.specs.declared.var_id.VarId.{VarId}
use Rattle.dom_core.specs.declared.view.Movement.{Movement}
use Rattle.dom_core.proofs.EndsLaws.{lies, lies_low, lies_high}
use Rattle.dom_core.proofs.TestLaws.{le_true, true_le, false_le, and_first, and_second}
use Rattle.dom_core.proofs.RisesLaws.{int_eq_same}
use Rattle.kind_law.specs.Laws.{Each, Covers, EndsIn, befores, afters, is_still, all_still}
use Rattle.kind_law.proofs.EachLaws.{each_map}
use Rattle.std.specs.Prelude.{map}
use Rattle.std.specs.Int.{int_max}
use Rattle.kind_law.specs.DefineLaws.{met_or_second, changed_by, changed_of, IsReal, ChangeLaw, InputLaw, RangeLaw, RestLaw, OwnChangeLaw, TrueLaw}

pub difference_has : (x y : ℤ) (before after : Ends) → lies_in x before ≡ true → lies_in y after ≡ true → lies_in (y -ℤ x) (difference_ends after before) ≡ true
difference_has x y before after h g =
    let a : before.lo ≤ℤ x = lies_low x before h in
    let b : x ≤ℤ before.hi = lies_high x before h in
    let c : after.lo ≤ℤ y = lies_low y after g in
    let d : y ≤ℤ after.hi = lies_high y after g in
    lies (y -ℤ x) (difference_ends after before) (omega (arith, ints)) (omega (arith, ints))

meet_has : (x : ℤ) (a b : Ends) → lies_in x a ≡ true → lies_in x b ≡ true → lies_in x (meet_ends a b) ≡ true
meet_has x a b h g =
    let p : a.lo ≤ℤ x = lies_low x a h in
    let q : x ≤ℤ a.hi = lies_high x a h in
    let r : b.lo ≤ℤ x = lies_low x b g in
    let s : x ≤ℤ b.hi = lies_high x b g in
    lies x (meet_ends a b) (omega (arith, ints, clamps)) (omega (arith, ints, clamps))

met_has : (x : ℤ) (a b : Ends) → lies_in x a ≡ true → lies_in x b ≡ true → lies_in x (met_or_second a b) ≡ true
met_has x a b h g =
    elim (int_le (meet_ends a b).lo (meet_ends a b).hi) as (λ t. lies_in x (if t then meet_ends a b else b) ≡ true)
    [ true ↦ meet_has x a b h g | false ↦ g ]

-- the change lies in what is computed for it
pub changed_has : (still : Bool) (row before after : Ends) (x y : ℤ) → (still ≡ true → y ≡ x) → lies_in (y -ℤ x) row ≡ true
    → lies_in x before ≡ true → lies_in y after ≡ true → lies_in (y -ℤ x) (changed_by still row before after) ≡ true
changed_has true row before after x y same r h g = let e : y ≡ x = same refl in lies (y -ℤ x) (only (pos 0)) (omega (arith, ints)) (omega (arith, ints))
changed_has false row before after x y same r h g = met_has (y -ℤ x) row (difference_ends after before) r (difference_has x y before after h g)

-- where no input moves, the inputs have the same values
pub still_same : (vars : List VarId) (view : List Movement) (a b : List ℤ) → Covers view vars a b → all_still vars view ≡ true
    → Each (λ u. entry_at a u.0 ≡ entry_at b u.0) vars
still_same [] view a b c h = tt
still_same (u ∷ us) view a b c h =
    let here : is_still (movement_at view u.0).change ≡ true = and_first (is_still (movement_at view u.0).change) (all_still us view) h in
    let lo : (movement_at view u.0).change.lo ≡ pos 0 = int_eq_same _ _ (and_first (int_eq (movement_at view u.0).change.lo (pos 0)) (int_eq (movement_at view u.0).change.hi (pos 0)) here) in
    let hi : (movement_at view u.0).change.hi ≡ pos 0 = int_eq_same _ _ (and_second (int_eq (movement_at view u.0).change.lo (pos 0)) (int_eq (movement_at view u.0).change.hi (pos 0)) here) in
    let low : (movement_at view u.0).change.lo ≤ℤ (entry_at b u.0 -ℤ entry_at a u.0) = lies_low _ _ c.0.change in
    let high : (entry_at b u.0 -ℤ entry_at a u.0) ≤ℤ (movement_at view u.0).change.hi = lies_high _ _ c.0.change in
    (omega (arith, ints), still_same us view a b c.1 (and_second (is_still (movement_at view u.0).change) (all_still us view) h))

-- ---- going through the variables

pub still-step : (vars : List VarId) (view : List Movement) (i : ℕ) (d : VarId) → i < length vars
    → is_still (movement_at view (get_or vars i d).0).change ≡ true → all_still (drop i vars) view ≡ all_still (drop (i + 1) vars) view
still-step vars view i d lt h =
    ap (λ (us : List VarId). all_still us view) (drop_more vars i d lt) ∙ ap (λ (t : Bool). t && all_still (drop (i + 1) vars) view) h

pub still-fails : (vars : List VarId) (view : List Movement) (i : ℕ) (d : VarId) → i < length vars
    → is_still (movement_at view (get_or vars i d).0).change ≡ false → all_still (drop i vars) view ≡ false
still-fails vars view i d lt h =
    ap (λ (us : List VarId). all_still us view) (drop_more vars i d lt) ∙ ap (λ (t : Bool). t && all_still (drop (i + 1) vars) view) h

pub changed_met : (row before after both : Ends) → both ≡ meet_ends row (difference_ends after before) → both.lo ≤ℤ both.hi → both ≡ changed_by false row before after
changed_met row before after both m order =
    let test : int_le (meet_ends row (difference_ends after before)).lo (meet_ends row (difference_ends after before)).hi ≡ true =
    true_le _ _ (subst (λ (x : Ends). x.lo ≤ℤ x.hi) m order) in
    m ∙ ap (λ (t : Bool). if t then meet_ends row (difference_ends after before) else difference_ends after before) (sym test)

pub changed_apart : (row before after : Ends) → (meet_ends row (difference_ends after before)).hi <ℤ (meet_ends row (difference_ends after before)).lo
    → difference_ends after before ≡ changed_by false row before after
changed_apart row before after h =
    let test : int_le (meet_ends row (difference_ends after before)).lo (meet_ends row (difference_ends after before)).hi ≡ false = false_le _ _ h in
    ap (λ (t : Bool). if t then meet_ends row (difference_ends after before) else difference_ends after before) (sym test)

-- the change of a view that moves no input
pub changed_still : (vars : List VarId) (view : List Movement) (row before after : Ends) → all_still vars view ≡ true → only (pos 0) ≡ changed_by (all_still vars view) row before after
changed_still vars view row before after h = sym (ap (λ (t : Bool). changed_by t row before after) h)

-- the change of a view that moves an input
pub changed_moving : (vars : List VarId) (view : List Movement) (row before after : Ends) → all_still vars view ≡ false → changed_by false row before after ≡ changed_by (all_still vars view) row before after
changed_moving vars view row before after h = sym (ap (λ (t : Bool). changed_by t row before after) h)

-- ---- the change lies between the ranges

-- a value for each variable
entry_map : (f : Movement → ℤ) (view : List Movement) (v : ℕ) → f (movement_at [] 0) ≡ pos 0 → entry_at (map f view) v ≡ f (movement_at view v)
entry_map f [] v e = sym e
entry_map f (m ∷ ms) zero e = refl
entry_map f (m ∷ ms) (suc v) e = entry_map f ms v e

abbrev least_before : Movement → ℤ
least_before m = m.before.lo

abbrev least_after : Movement → ℤ
least_after m = m.after.lo

-- the least value that is allowed before and after, where nothing changes
abbrev least_both : Movement → ℤ
least_both m = int_max m.before.lo m.after.lo

least_lies : (e : Ends) → e.lo ≤ℤ e.hi → lies_in e.lo e ≡ true
least_lies e h = lies e.lo e (omega (arith, ints)) h

before_here : (inputs : List VarId) (view : List Movement) → Each (λ u. IsReal (movement_at view u.0)) inputs
    → Each (λ u. lies_in (entry_at (map least_before view) u.0) (befores view u.0) ≡ true) inputs
before_here inputs view h =
    each_map (λ u. IsReal (movement_at view u.0)) (λ u. lies_in (entry_at (map least_before view) u.0) (befores view u.0) ≡ true) inputs
    (λ u r. ap (λ (x : ℤ). lies_in x (befores view u.0)) (entry_map least_before view u.0 refl) ∙ least_lies (movement_at view u.0).before r.before) h

after_here : (inputs : List VarId) (view : List Movement) → Each (λ u. IsReal (movement_at view u.0)) inputs
    → Each (λ u. lies_in (entry_at (map least_after view) u.0) (afters view u.0) ≡ true) inputs
after_here inputs view h =
    each_map (λ u. IsReal (movement_at view u.0)) (λ u. lies_in (entry_at (map least_after view) u.0) (afters view u.0) ≡ true) inputs
    (λ u r. ap (λ (x : ℤ). lies_in x (afters view u.0)) (entry_map least_after view u.0 refl) ∙ least_lies (movement_at view u.0).after r.after) h

both_lie : (m : Movement) → IsReal m → is_still m.change ≡ true → (lies_in (least_both m) m.before ≡ true) × (lies_in (least_both m) m.after ≡ true)
both_lie m r s =
    let lo : m.change.lo ≡ pos 0 = int_eq_same _ _ (and_first (int_eq m.change.lo (pos 0)) (int_eq m.change.hi (pos 0)) s) in
    let hi : m.change.hi ≡ pos 0 = int_eq_same _ _ (and_second (int_eq m.change.lo (pos 0)) (int_eq m.change.hi (pos 0)) s) in
    let a : (m.after.lo -ℤ m.before.hi) ≤ℤ m.change.lo = r.change.low in
    let b : m.change.hi ≤ℤ (m.after.hi -ℤ m.before.lo) = r.change.high in
    let c : m.before.lo ≤ℤ m.before.hi = r.before in
    let d : m.after.lo ≤ℤ m.after.hi = r.after in (
      lies (least_both m) m.before (omega (arith, ints, clamps)) (omega (arith, ints, clamps)),
      lies (least_both m) m.after (omega (arith, ints, clamps)) (omega (arith, ints, clamps)),
    )

both_here : (inputs : List VarId) (view : List Movement) → Each (λ u. IsReal (movement_at view u.0)) inputs → all_still inputs view ≡ true
    → Each (λ u. lies_in (entry_at (map least_both view) u.0) (befores view u.0) ≡ true) inputs × Each (λ u. lies_in (entry_at (map least_both view) u.0) (afters view u.0) ≡ true) inputs
both_here [] view h s = (tt, tt)
both_here (u ∷ us) view h s =
    let t = both_lie (movement_at view u.0) h.0 (and_first (is_still (movement_at view u.0).change) (all_still us view) s) in
    let r = both_here us view h.1 (and_second (is_still (movement_at view u.0).change) (all_still us view) s) in
    let e : entry_at (map least_both view) u.0 ≡ least_both (movement_at view u.0) = entry_map least_both view u.0 refl in
    ((ap (λ (x : ℤ). lies_in x (befores view u.0)) e ∙ t.0, r.0), (ap (λ (x : ℤ). lies_in x (afters view u.0)) e ∙ t.1, r.1))

between : (still : Bool) (row before after : Ends) → before.lo ≤ℤ before.hi → after.lo ≤ℤ after.hi → (still ≡ true → (x : ℤ) × (lies_in x before ≡ true) × (lies_in x after ≡ true))
    → EndsIn (changed_by still row before after) (difference_ends after before)
between true row before after f g h =
    let w = h refl in
    let a : before.lo ≤ℤ w.0 = lies_low w.0 before w.1 in
    let b : w.0 ≤ℤ before.hi = lies_high w.0 before w.1 in
    let c : after.lo ≤ℤ w.0 = lies_low w.0 after w.2 in
    let d : w.0 ≤ℤ after.hi = lies_high w.0 after w.2 in
    record { low = omega (arith, ints); order = omega (arith, ints); high = omega (arith, ints) }
between false row before after f g h =
    let d : Ends = difference_ends after before in
    let step : (b : Bool) → int_le (meet_ends row (difference_ends after before)).lo (meet_ends row (difference_ends after before)).hi ≡ b
    → EndsIn (if b then meet_ends row (difference_ends after before) else difference_ends after before) (difference_ends after before) =
    λ b. elim b as (λ b. int_le (meet_ends row (difference_ends after before)).lo (meet_ends row (difference_ends after before)).hi ≡ b
    → EndsIn (if b then meet_ends row (difference_ends after before) else difference_ends after before) (difference_ends after before)) [
      | true ↦ λ e. (let o : (meet_ends row (difference_ends after before)).lo ≤ℤ (meet_ends row (difference_ends after before)).hi = le_true _ _ e in
          record { low = omega (arith, ints, clamps); order = o; high = omega (arith, ints, clamps) })
      | false ↦ λ e. record { low = omega (arith, ints); order = omega (arith, ints); high = omega (arith, ints) }
    ] in
    step (int_le (meet_ends row (difference_ends after before)).lo (meet_ends row (difference_ends after before)).hi) refl

pub true_changed : (inputs : List VarId) (given : List ℤ → ℤ) (ranged : (ℕ → Ends) → Ends) (row : List Movement → Ends) → RangeLaw inputs given ranged
    → TrueLaw inputs ranged (changed_of inputs ranged row)
true_changed inputs given ranged row law view h =
    let p = law (map least_before view) (befores view) (before_here inputs view h) in
    let q = law (map least_after view) (afters view) (after_here inputs view h) in
    let a : (ranged (befores view)).lo ≤ℤ given (map least_before view) = lies_low _ _ p in
    let b : given (map least_before view) ≤ℤ (ranged (befores view)).hi = lies_high _ _ p in
    let c : (ranged (afters view)).lo ≤ℤ given (map least_after view) = lies_low _ _ q in
    let d : given (map least_after view) ≤ℤ (ranged (afters view)).hi = lies_high _ _ q in
    between (all_still inputs view) (row view) (ranged (befores view)) (ranged (afters view)) (omega (arith, ints)) (omega (arith, ints))
    (λ s. (let t = both_here inputs view h s in
    (given (map least_both view), law (map least_both view) (befores view) t.0, law (map least_both view) (afters view) t.1)))

-- ---- what follows for every kind that defines

-- where no input moves, the value doesn't change
pub rest_changed : (inputs : List VarId) (ranged : (ℕ → Ends) → Ends) (row : List Movement → Ends) → RestLaw inputs (changed_of inputs ranged row)
rest_changed inputs ranged row view h = ap (λ (t : Bool). changed_by t (row view) (ranged (befores view)) (ranged (afters view))) h

-- the change of the value lies in the change that the view gives
pub change_changed : (inputs : List VarId) (given : List ℤ → ℤ) (ranged : (ℕ → Ends) → Ends) (row : List Movement → Ends) → InputLaw inputs given
    → RangeLaw inputs given ranged → OwnChangeLaw inputs given row → ChangeLaw inputs given (changed_of inputs ranged row)
change_changed inputs given ranged row input range rows view a b c =
    changed_has (all_still inputs view) (row view) (ranged (befores view)) (ranged (afters view)) (given a) (given b)
    (λ s. sym (input a b (still_same inputs view a b c s))) (rows view a b c)
    (range a (befores view) (each_map (λ u. IsCovered view a b u.0) (λ u. lies_in (entry_at a u.0) (befores view u.0) ≡ true) inputs (λ u m. m.before) c))
    (range b (afters view) (each_map (λ u. IsCovered view a b u.0) (λ u. lies_in (entry_at b u.0) (afters view u.0) ≡ true) inputs (λ u m. m.after) c))
