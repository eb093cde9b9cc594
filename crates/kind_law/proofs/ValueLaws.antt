-- What holds of an argument's value, of its ends and of its change where it holds of its variable's.
use Rattle.std.proofs.Common.{◌≡◌, true, List, ℕ, ℤ, pos, ◌-ℤ◌, refl, arith}
use Rattle.std.proofs.lemmas.Int.{ints}
use Rattle.dom_core.specs.Assignment.{entry_at}
use Rattle.dom_core.specs.Ends.{Ends, only, lies_in}
use Rattle.dom_core.specs.View.{IsCovered, movement_at}
use Rattle.dom_core.specs.declared.arg.Arg.{Arg}
use Rattle.dom_core.specs.declared.arg.Arg.TheVariants.{Var, Const}
use Rattle.dom_core.specs.declared.view.Movement.{Movement}
use Rattle.dom_core.proofs.EndsLaws.{lies}
use Rattle.kind_law.specs.Argument.{ArgHas, arg_value, arg_ends, arg_change}
use Rattle.kind_law.specs.Laws.{EndsIn, points, afters, changes}

-- the value lies in the argument's interval
pub arg_lies : (s : ℕ → Ends) (a : List ℤ) (x : Arg) → ArgHas (λ u. lies_in (entry_at a u.0) (s u.0) ≡ true) x → lies_in (arg_value a x) (arg_ends s x) ≡ true
arg_lies s a (Var x) h = h
arg_lies s a (Const c) h = lies c (only c) (omega (arith, ints)) (omega (arith, ints))

-- the interval lies in the larger one
pub arg_within : (small large : ℕ → Ends) (x : Arg) → ArgHas (λ u. EndsIn (small u.0) (large u.0)) x → EndsIn (arg_ends small x) (arg_ends large x)
arg_within small large (Var u) h = h
arg_within small large (Const c) h = record { low = omega (arith, ints); order = omega (arith, ints); high = omega (arith, ints) }

-- assignments that agree on the variable give the same value
pub arg_same : (a b : List ℤ) (x : Arg) → ArgHas (λ u. entry_at a u.0 ≡ entry_at b u.0) x → arg_value a x ≡ arg_value b x
arg_same a b (Var x) h = h
arg_same a b (Const c) h = refl

-- the interval of one assignment is the value alone
pub arg_point : (a : List ℤ) (x : Arg) → arg_ends (points a) x ≡ only (arg_value a x)
arg_point a (Var u) = refl
arg_point a (Const c) = refl

-- the second value lies in the interval that the view has afterwards
pub value_after : (view : List Movement) (a b : List ℤ) (x : Arg) → ArgHas (λ u. IsCovered view a b u.0) x → lies_in (arg_value b x) (arg_ends (afters view) x) ≡ true
value_after view a b (Var x) h = h.after
value_after view a b (Const c) h = lies c (only c) (omega (arith, ints)) (omega (arith, ints))

-- the difference of the values lies in the view's change
pub value_moves : (view : List Movement) (a b : List ℤ) (x : Arg) → ArgHas (λ u. IsCovered view a b u.0) x
    → lies_in (arg_value b x -ℤ arg_value a x) (arg_change (changes view) x) ≡ true
value_moves view a b (Var x) h = h.change
value_moves view a b (Const c) h = lies (c -ℤ c) (only (pos 0)) (omega (arith, ints)) (omega (arith, ints))

-- where the view doesn't move the variable, the argument stays
pub arg_stays : (view : List Movement) (x : Arg) → ArgHas (λ u. (movement_at view u.0).change ≡ only (pos 0)) x → arg_change (changes view) x ≡ only (pos 0)
arg_stays view (Var u) h = h
arg_stays view (Const c) h = refl
