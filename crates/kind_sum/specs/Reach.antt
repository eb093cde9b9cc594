-- How far a variable's end may move before a sum is refuted.
use Rattle.std.specs.Prelude.{◌*◌, Bool, true, false, ℕ, ℤ, pos, ◌+ℤ◌, ◌-ℤ◌}
use Rattle.dom_core.specs.Ends.{Ends}
use Rattle.kind_parts.specs.Relation.{refuted_by}
use Rattle.kind_sum.specs.declared.reach.Pull.{Pull}
use Rattle.dom_core.specs.declared.relation.Relation.{Relation}

-- the interval of a sum whose least value rises by so much, or else whose greatest falls by it
abbrev pub moved_ends : Bool → Ends → ℕ → Ends
moved_ends true t n = record { lo = t.lo +ℤ pos n; hi = t.hi }
moved_ends false t n = record { lo = t.lo; hi = t.hi -ℤ pos n }

-- the interval of the sum where the end moves so many steps
abbrev pub pulled_ends : Pull → Ends → ℕ → Ends
pulled_ends p t n = moved_ends p.rises t (p.size * n)

-- no sum stands in the relation where the end moves so many steps
abbrev pub is_pulled_off : Relation → Ends → ℤ → Pull → ℕ → Bool
is_pulled_off r t c p n = refuted_by r (pulled_ends p t n) c

-- how far the least sum is below the bound, or else how far the greatest is above it
abbrev pub room_of : Bool → Ends → ℤ → ℤ
room_of true t c = c -ℤ t.lo
room_of false t c = t.hi -ℤ c
