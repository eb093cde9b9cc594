-- Laws of operands: what values, intervals and changes make of them, one by one and in lists.
use Rattle.std.proofs.Common.{◌≡◌, Bool, true, false, not, ◌&&◌, ◌||◌, List, [], ◌∷◌, ℕ, ℤ, pos, ◌-ℤ◌, ◌≤ℤ◌, ◌<ℤ◌, int_le, refl, sym, ◌∙◌, ap, arith, inl, inr}
use Rattle.std.proofs.lemmas.Int.{ints}
use Rattle.std.specs.List.{list_any, list_all}
use Rattle.dom_core.specs.Assignment.{entry_at}
use Rattle.dom_core.specs.Ends.{Ends, only, lies_in}
use Rattle.dom_core.specs.View.{IsCovered, movement_at}
use Rattle.dom_core.specs.declared.arg.Arg.{Arg}
use Rattle.dom_core.specs.declared.arg.Arg.TheVariants.{Var, Const}
use Rattle.dom_core.specs.declared.var_id.VarId.{VarId}
use Rattle.dom_core.specs.declared.view.Movement.{Movement}
use Rattle.dom_core.proofs.EndsLaws.{lies, lies_low, lies_high}
use Rattle.dom_core.proofs.ProductLaws.{lt_false}
use Rattle.dom_core.proofs.RisesLaws.{same_test, or_true, or_left, or_right}
use Rattle.dom_core.proofs.TestLaws.{le_true, true_le, le_false, and_first, and_second, and_both, neither, not_true, not_false}
use Rattle.kind_law.specs.Argument.{ArgHas, arg_value, arg_ends, arg_change}
use Rattle.kind_law.specs.Laws.{Each, EndsIn, points, changes}
use Rattle.kind_law.proofs.ArgumentLaws.{each_listed, split_arg}
use Rattle.kind_parts.specs.Vars.{variables_of}
use Rattle.kind_truths.specs.Operand.{makes_true, is_certain, may_fall, arguments_of, operand_vars}
use Rattle.kind_truths.specs.declared.operand.Operand.{Operand}

-- ---- one value, one interval

-- a value of a certain interval is true
pub certain_value : (n : Bool) (v : ℤ) (e : Ends) → lies_in v e ≡ true → is_certain n e ≡ true → makes_true n v ≡ true
certain_value false v e h c =
    let low : e.lo ≤ℤ v = lies_low v e h in
    let one : pos 1 ≤ℤ e.lo = le_true (pos 1) e.lo c in
    true_le (pos 1) v (omega (arith, ints))
certain_value true v e h c =
    let high : v ≤ℤ e.hi = lies_high v e h in
    let none : e.hi ≤ℤ pos 0 = le_true e.hi (pos 0) c in
    true_le v (pos 0) (omega (arith, ints))

-- a value is true of the negated argument exactly where it isn't of the other
pub turned_value : (n : Bool) (v : ℤ) → makes_true (not n) v ≡ not (makes_true n v)
turned_value false v = same_test (int_le v (pos 0)) (not (int_le (pos 1) v))
    (λ h. not_false (int_le (pos 1) v) (λ g. (let a : v ≤ℤ pos 0 = le_true v (pos 0) h in let b : pos 1 ≤ℤ v = le_true (pos 1) v g in absurd (omega (arith, ints)))))
    (λ h. true_le v (pos 0) (let b : v <ℤ pos 1 = le_false (pos 1) v (not_true (int_le (pos 1) v) h) in omega (arith, ints)))
turned_value true v = same_test (int_le (pos 1) v) (not (int_le v (pos 0)))
    (λ h. not_false (int_le v (pos 0)) (λ g. (let a : v ≤ℤ pos 0 = le_true v (pos 0) g in let b : pos 1 ≤ℤ v = le_true (pos 1) v h in absurd (omega (arith, ints)))))
    (λ h. true_le (pos 1) v (let b : pos 0 <ℤ v = le_false v (pos 0) (not_true (int_le v (pos 0)) h) in omega (arith, ints)))

-- a value of a refuted interval is false
pub refuted_value : (n : Bool) (v : ℤ) (e : Ends) → lies_in v e ≡ true → is_certain (not n) e ≡ true → makes_true n v ≡ false
refuted_value n v e h c = not_true (makes_true n v) (sym (turned_value n v) ∙ certain_value (not n) v e h c)

-- smaller intervals are certain where larger ones are
pub certain_within : (n : Bool) (small large : Ends) → EndsIn small large → is_certain n large ≡ true → is_certain n small ≡ true
certain_within false small large w c =
    let low : large.lo ≤ℤ small.lo = w.low in
    let one : pos 1 ≤ℤ large.lo = le_true (pos 1) large.lo c in
    true_le (pos 1) small.lo (omega (arith, ints))
certain_within true small large w c =
    let high : small.hi ≤ℤ large.hi = w.high in
    let none : large.hi ≤ℤ pos 0 = le_true large.hi (pos 0) c in
    true_le small.hi (pos 0) (omega (arith, ints))

pub certain_only : (n : Bool) (v : ℤ) → is_certain n (only v) ≡ makes_true n v
certain_only false v = refl
certain_only true v = refl

-- a value that doesn't fall stays true
pub stays_true : (n : Bool) (v w : ℤ) (e : Ends) → lies_in (w -ℤ v) e ≡ true → may_fall n e ≡ false → makes_true n v ≡ true → makes_true n w ≡ true
stays_true false v w e h f t =
    let low : e.lo ≤ℤ (w -ℤ v) = lies_low (w -ℤ v) e h in
    let still : pos 0 ≤ℤ e.lo = lt_false e.lo (pos 0) f in
    let one : pos 1 ≤ℤ v = le_true (pos 1) v t in
    true_le (pos 1) w (omega (arith, ints))
stays_true true v w e h f t =
    let high : (w -ℤ v) ≤ℤ e.hi = lies_high (w -ℤ v) e h in
    let still : e.hi ≤ℤ pos 0 = lt_false (pos 0) e.hi f in
    let none : v ≤ℤ pos 0 = le_true v (pos 0) t in
    true_le w (pos 0) (omega (arith, ints))

-- ---- arguments

pub value_lies : (a : List ℤ) (s : ℕ → Ends) (x : Arg) → ArgHas (λ u. lies_in (entry_at a u.0) (s u.0) ≡ true) x → lies_in (arg_value a x) (arg_ends s x) ≡ true
value_lies a s (Var u) h = h
value_lies a s (Const c) h = lies c (only c) (omega (arith, ints)) (omega (arith, ints))

-- ---- tests of operands, one and all

-- the fact holds of each operand
abbrev pub EachOperand : (Operand → Type 0) → List Operand → Type 0
EachOperand P [] = Unit {0}
EachOperand P (o ∷ os) = P o × EachOperand P os

-- what holds of the variables holds of each operand's argument
pub each_operand : (P : VarId → Type 0) (os : List Operand) → Each P (variables_of (arguments_of os)) → EachOperand (λ o. ArgHas P o.arg) os
each_operand P [] h = tt
each_operand P (o ∷ os) h = let both = split_arg P o.arg (variables_of (arguments_of os)) h in (both.0, each_operand P os both.1)

pub of_vars : (P : VarId → Type 0) (os : List Operand) → Each P (operand_vars os) → EachOperand (λ o. ArgHas P o.arg) os
of_vars P os h = each_operand P os (each_listed P (variables_of (arguments_of os)) h)

pub any_passes : (f g : Operand → Bool) (P : Operand → Type 0) (os : List Operand) → ((o : Operand) → P o → f o ≡ true → g o ≡ true) → EachOperand P os
    → list_any f os ≡ true → list_any g os ≡ true
any_passes f g P [] step h t = t
any_passes f g P (o ∷ os) step h t =
    elim (or_true (f o) (list_any f os) t)
    [ inl here ↦ or_left (g o) (list_any g os) (step o h.0 here) | inr later ↦ or_right (g o) (list_any g os) (any_passes f g P os step h.1 later) ]

pub all_pass : (f g : Operand → Bool) (P : Operand → Type 0) (os : List Operand) → ((o : Operand) → P o → f o ≡ true → g o ≡ true) → EachOperand P os
    → list_all f os ≡ true → list_all g os ≡ true
all_pass f g P [] step h t = t
all_pass f g P (o ∷ os) step h t =
    and_both (g o) (list_all g os) (step o h.0 (and_first (f o) (list_all f os) t)) (all_pass f g P os step h.1 (and_second (f o) (list_all f os) t))

pub any_same : (f g : Operand → Bool) (P : Operand → Type 0) (os : List Operand) → ((o : Operand) → P o → f o ≡ g o) → EachOperand P os
    → list_any f os ≡ list_any g os
any_same f g P [] step h = refl
any_same f g P (o ∷ os) step h = ap (λ (t : Bool). t || list_any f os) (step o h.0) ∙ ap (λ (t : Bool). g o || t) (any_same f g P os step h.1)

-- where all fail the one test, none passes the other
pub none_passes : (f g : Operand → Bool) (P : Operand → Type 0) (os : List Operand) → ((o : Operand) → P o → f o ≡ true → g o ≡ false) → EachOperand P os
    → list_all f os ≡ true → list_any g os ≡ false
none_passes f g P [] step h t = refl
none_passes f g P (o ∷ os) step h t =
    ap (λ (b : Bool). b || list_any g os) (step o h.0 (and_first (f o) (list_all f os) t)) ∙ none_passes f g P os step h.1 (and_second (f o) (list_all f os) t)

not_or : (a b : Bool) → (not a && not b) ≡ not (a || b)
not_or true b = refl
not_or false b = refl

-- all fail exactly where none passes
pub all_fail : (f g : Operand → Bool) (os : List Operand) → ((o : Operand) → f o ≡ not (g o)) → list_all f os ≡ not (list_any g os)
all_fail f g [] step = refl
all_fail f g (o ∷ os) step =
    ap (λ (t : Bool). t && list_all f os) (step o) ∙ ap (λ (t : Bool). not (g o) && t) (all_fail f g os step) ∙ not_or (g o) (list_any g os)

-- where none may fall and one passes, one still does
pub any_stays : (fall f g : Operand → Bool) (P : Operand → Type 0) (os : List Operand) → ((o : Operand) → P o → fall o ≡ false → f o ≡ true → g o ≡ true)
    → EachOperand P os → list_any fall os ≡ false → list_any f os ≡ true → list_any g os ≡ true
any_stays fall f g P [] step h none t = t
any_stays fall f g P (o ∷ os) step h none t =
    let both = neither (fall o) (list_any fall os) none in
    elim (or_true (f o) (list_any f os) t) [
      | inl here ↦ or_left (g o) (list_any g os) (step o h.0 both.0 here)
      | inr later ↦ or_right (g o) (list_any g os) (any_stays fall f g P os step h.1 both.1 later)
    ]

-- where none may fall and all pass, all still do
pub all_stay : (fall f g : Operand → Bool) (P : Operand → Type 0) (os : List Operand) → ((o : Operand) → P o → fall o ≡ false → f o ≡ true → g o ≡ true)
    → EachOperand P os → list_any fall os ≡ false → list_all f os ≡ true → list_all g os ≡ true
all_stay fall f g P [] step h none t = t
all_stay fall f g P (o ∷ os) step h none t =
    let both = neither (fall o) (list_any fall os) none in
    and_both (g o) (list_all g os) (step o h.0 both.0 (and_first (f o) (list_all f os) t)) (all_stay fall f g P os step h.1 both.1 (and_second (f o) (list_all f os) t))

pub any_every : (f g : Operand → Bool) (os : List Operand) → ((o : Operand) → f o ≡ g o) → list_any f os ≡ list_any g os
any_every f g [] step = refl
any_every f g (o ∷ os) step = ap (λ (t : Bool). t || list_any f os) (step o) ∙ ap (λ (t : Bool). g o || t) (any_every f g os step)

pub none_every : (f : Operand → Bool) (P : Operand → Type 0) (os : List Operand) → ((o : Operand) → P o → f o ≡ false) → EachOperand P os → list_any f os ≡ false
none_every f P [] step h = refl
none_every f P (o ∷ os) step h = ap (λ (t : Bool). t || list_any f os) (step o h.0) ∙ none_every f P os step h.1

-- ---- arguments that stay

pub still_falls_not : (n : Bool) (e : Ends) → e ≡ only (pos 0) → may_fall n e ≡ false
still_falls_not false e h = ap (may_fall false) h
still_falls_not true e h = ap (may_fall true) h
