-- Relations of numbers to a bound: over single numbers, over intervals, and their truths.
use Rattle.std.specs.Prelude.{Bool, true, false, not, ◌&&◌, ◌||◌, if◌then◌else◌, ℤ, pos, negsuc, int_le, int_lt}
use Rattle.std.specs.Ordering.{int_eq}
use Rattle.dom_core.specs.Ends.{Ends, lies_in, difference_ends}
use Rattle.dom_core.specs.declared.relation.Relation.{Relation}
use Rattle.dom_core.specs.declared.relation.Relation.TheVariants.{AtMost, Equal, Differ}

-- the number stands in the relation to the bound
abbrev pub is_related : Relation → ℤ → ℤ → Bool
is_related AtMost x c = int_le x c
is_related Equal x c = int_eq x c
is_related Differ x c = not (int_eq x c)

-- the number is the only one of the interval
abbrev pub is_only_value : Ends → ℤ → Bool
is_only_value e x = int_eq e.lo x && int_eq e.hi x

-- no number of the interval stands in the relation
abbrev pub refuted_by : Relation → Ends → ℤ → Bool
refuted_by AtMost e c = int_lt c e.lo
refuted_by Equal e c = not (lies_in c e)
refuted_by Differ e c = is_only_value e c

-- each number of the interval stands in the relation
abbrev pub certain_by : Relation → Ends → ℤ → Bool
certain_by AtMost e c = int_le e.hi c
certain_by Equal e c = is_only_value e c
certain_by Differ e c = not (lies_in c e)

-- the relation stays where the number changes so and lies there afterwards
abbrev pub kept_by : Relation → Ends → Ends → ℤ → Bool
kept_by AtMost change after c = int_le change.hi (pos 0) || int_le after.hi c
kept_by Equal change after c = is_only_value change (pos 0) || is_only_value after c
kept_by Differ change after c = is_only_value change (pos 0) || not (lies_in c after)

-- the number is to be equal
abbrev pub is_equality : Relation → Bool
is_equality AtMost = false
is_equality Equal = true
is_equality Differ = false

-- the number is to differ
abbrev pub is_difference : Relation → Bool
is_difference AtMost = false
is_difference Equal = false
is_difference Differ = true

-- ---- truths

-- the number of a truth
abbrev pub number_of : Bool → ℤ
number_of b = if b then pos 1 else pos 0

-- 1 where it is certain, 0 where it is refuted, else both
abbrev pub truth_ends : Bool → Bool → Ends
truth_ends certain refuted = record { lo = if certain then pos 1 else pos 0; hi = if refuted then pos 0 else pos 1 }

-- the truths of the relation at the numbers of the interval
abbrev pub truth_over : Relation → Ends → ℤ → Ends
truth_over r e c = truth_ends (certain_by r e c) (refuted_by r e c)

-- a bound's truth doesn't fall where the number doesn't rise, and doesn't rise where the number doesn't fall
abbrev pub bound_row : Ends → Ends
bound_row change = record { lo = if int_le change.hi (pos 0) then pos 0 else negsuc 0; hi = if int_le (pos 0) change.lo then pos 0 else pos 1 }

-- how a truth may change where the number changes so: a bound's truth has a row of its own, others change as their truths
-- before and after allow
abbrev pub truth_row : Relation → Ends → Ends → Ends → Ends
truth_row AtMost change before after = bound_row change
truth_row Equal change before after = difference_ends after before
truth_row Differ change before after = difference_ends after before
