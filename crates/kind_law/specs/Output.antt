-- Kinds whose output argument has the value that a function gives of the inputs.
use Rattle.std.specs.Prelude.{◌≡◌, Bool, false, not, List, ℕ, ℤ, pos, ◌≤ℤ◌}
use Rattle.std.specs.Ordering.{int_eq}
use Rattle.dom_core.specs.Ends.{Ends, only}
use Rattle.dom_core.specs.declared.arg.Arg.{Arg}
use Rattle.dom_core.specs.declared.arg.Arg.TheVariants.{Var, Const}
use Rattle.dom_core.specs.declared.var_id.VarId.{VarId}
use Rattle.dom_core.specs.declared.view.Movement.{Movement}
use Rattle.dom_cells.specs.declared.start.Start.{Start}
use Rattle.kind_law.specs.Argument.{arg_value, arg_ends, arg_movement, is_listed}
use Rattle.kind_law.specs.Function.{have_none, function_kept}
use Rattle.kind_law.specs.Laws.{points, hulls, befores, afters}

-- the range over one assignment is the value
abbrev pub PointLaw : (List ℤ → ℤ) → ((ℕ → Ends) → Ends) → Type 0
PointLaw given ranged = (a : List ℤ) → ranged (points a) ≡ only (given a)

-- the function has the values 0 and 1 alone
abbrev pub BitLaw : (List ℤ → ℤ) → Type 0
BitLaw given = (a : List ℤ) → (pos 0 ≤ℤ given a) × (given a ≤ℤ pos 1)

-- the output has the function's value
abbrev pub output_met : (List ℤ → ℤ) → Arg → List ℤ → Bool
output_met given x a = int_eq (arg_value a x) (given a)

-- the function's range has no integer in common with the output's interval
abbrev pub output_refuted : ((ℕ → Ends) → Ends) → Arg → (ℕ → Start) → Bool
output_refuted ranged x b = have_none (ranged (hulls b)) (arg_ends (hulls b) x)

-- the movement of the function
abbrev pub moved : ((ℕ → Ends) → Ends) → (List Movement → Ends) → List Movement → Movement
moved ranged changed view = record { before = ranged (befores view); after = ranged (afters view); change = changed view }

-- the output keeps the function's value
abbrev pub output_kept : Bool → ((ℕ → Ends) → Ends) → (List Movement → Ends) → Arg → List Movement → Bool
output_kept two ranged changed x view = function_kept two (moved ranged changed view) (arg_movement view x)

-- the output is a variable, and none of the inputs
abbrev pub is_apart : Arg → List VarId → Bool
is_apart (Var u) inputs = not (is_listed u inputs)
is_apart (Const c) inputs = false
