-- What assignments, boxes and views say of an argument, and lists of the variables of arguments.
use Rattle.std.specs.Prelude.{◌==◌, Bool, true, false, not, if◌then◌else◌, List, [], ◌∷◌, ◌++◌, ℕ, ℤ, pos}
use Rattle.std.specs.List.{list_any}
use Rattle.dom_core.specs.Assignment.{entry_at}
use Rattle.dom_core.specs.Ends.{Ends, only}
use Rattle.dom_core.specs.View.{movement_at}
use Rattle.dom_core.specs.declared.arg.Arg.{Arg}
use Rattle.dom_core.specs.declared.arg.Arg.TheVariants.{Var, Const}
use Rattle.dom_core.specs.declared.var_id.VarId.{VarId}
use Rattle.dom_cells.specs.declared.start.Start.{Start}
use Rattle.dom_cells.specs.declared.start.Start.TheVariants.{Span}
use Rattle.dom_core.specs.declared.view.Movement.{Movement}
use Rattle.kind_law.specs.declared.argument.Reading.{Reading}
use Rattle.kind_law.specs.declared.argument.Reading.TheVariants.{Values, Changes}

-- the interval of a constant, which is its own value and changes by 0
abbrev pub constant_span : Reading → ℤ → Ends
constant_span Values c = only c
constant_span Changes c = only (pos 0)

-- the interval of an argument
abbrev pub arg_span : Reading → (ℕ → Ends) → Arg → Ends
arg_span r s (Var x) = s x.0
arg_span r s (Const c) = constant_span r c

-- the interval of an argument
abbrev pub arg_ends : (ℕ → Ends) → Arg → Ends
arg_ends s x = arg_span Values s x

-- the interval of an argument's change
abbrev pub arg_change : (ℕ → Ends) → Arg → Ends
arg_change s x = arg_span Changes s x

-- the value of an argument
abbrev pub arg_value : List ℤ → Arg → ℤ
arg_value a (Var x) = entry_at a x.0
arg_value a (Const c) = c

-- the values that an argument has left
abbrev pub arg_left : (ℕ → Start) → Arg → Start
arg_left b (Var x) = b x.0
arg_left b (Const c) = Span c c

-- the fact holds of the argument, where that is a variable
abbrev pub ArgHas : (VarId → Type 0) → Arg → Type 0
ArgHas P (Var x) = P x
ArgHas P (Const c) = Unit {0}

-- the argument's variable, or the first one for a constant
abbrev pub var_of : Arg → VarId
var_of (Var x) = x
var_of (Const c) = record { 0 = 0 }

-- the argument is a variable
abbrev pub is_variable : Arg → Bool
is_variable (Var x) = true
is_variable (Const c) = false

-- the variables with that of the argument in front, where it is one
abbrev pub with_arg : Arg → List VarId → List VarId
with_arg (Var x) vs = x ∷ vs
with_arg (Const c) vs = vs

-- the argument's variable, where it is one
abbrev pub arg_vars : Arg → List VarId
arg_vars x = with_arg x []

-- whether the variable stands in the list
abbrev pub is_listed : VarId → List VarId → Bool
is_listed u vs = list_any (λ v. v.0 == u.0) vs

-- the list with the variable at its end, unless it stands in it
abbrev pub with_new : List VarId → VarId → List VarId
with_new seen v = if is_listed v seen then seen else seen ++ v ∷ []

-- the list with the argument's variable at its end, unless it is none or stands in the list
abbrev pub with_new_arg : List VarId → Arg → List VarId
with_new_arg seen (Var x) = with_new seen x
with_new_arg seen (Const c) = seen

-- the argument is none of the variables
abbrev pub is_new : List VarId → Arg → Bool
is_new vars (Var x) = not (is_listed x vars)
is_new vars (Const c) = true

-- the variables seen, and then those of the list that are new
abbrev pub collected : List VarId → List VarId → List VarId
collected seen [] = seen
collected seen (v ∷ vs) = collected (with_new seen v) vs

-- each variable once, in the order in which they come first
abbrev pub distinct : List VarId → List VarId
distinct vs = collected [] vs

-- the movement of an argument
abbrev pub arg_movement : List Movement → Arg → Movement
arg_movement view (Var x) = movement_at view x.0
arg_movement view (Const c) = record { before = only c; after = only c; change = only (pos 0) }
