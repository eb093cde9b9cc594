-- Outputs that have the value of a function.
use Rattle.std.specs.Prelude.{◌&&◌, ◌||◌, Bool, ℤ, pos, int_le, int_lt}
use Rattle.std.specs.Ordering.{int_eq}
use Rattle.dom_core.specs.Ends.{Ends}
use Rattle.dom_core.specs.declared.view.Movement.{Movement}

-- the intervals have no integer in common
abbrev pub have_none : Ends → Ends → Bool
have_none a b = int_lt a.hi b.lo || int_lt b.hi a.lo

-- the interval is this integer alone
abbrev pub is_one : Ends → ℤ → Bool
is_one e x = int_eq e.lo x && int_eq e.hi x

-- the intervals are one integer, and the same
abbrev pub are_one : Ends → Ends → Bool
are_one a b = int_eq a.lo a.hi && is_one b a.lo

-- the output stays at this integer
abbrev pub stays_at : Movement → ℤ → Bool
stays_at y x = is_one y.before x && is_one y.after x

-- a truth of this change keeps the value of the output, which stays at 1 where it doesn't fall, or at 0 where it doesn't
-- rise
abbrev pub truth_kept : Ends → Movement → Bool
truth_kept change y = (stays_at y (pos 1) && int_le (pos 0) change.lo) || (stays_at y (pos 0) && int_le change.hi (pos 0))

-- the output keeps the value of the function: both change by the same integer, or are the same integer afterwards, or
-- the function has the values 0 and 1 alone and the output stays where it can
abbrev pub function_kept : Bool → Movement → Movement → Bool
function_kept two f y = are_one f.change y.change || (are_one f.after y.after || (two && truth_kept f.change y))
