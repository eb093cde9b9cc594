-- How many there may be of what is counted.
use Rattle.std.specs.Prelude.{ℕ}
use Rattle.dom_limits.specs.declared.counted.Counted.{Counted}
use Rattle.dom_limits.specs.declared.counted.Counted.TheVariants.{Variables, Constraints, ArrayEntries, ArgumentEntries, Free}

-- how many there may be
abbrev pub limit_of : Counted → ℕ
limit_of Variables = 100000
limit_of Constraints = 100000
limit_of ArrayEntries = 100000
limit_of ArgumentEntries = 2000000
limit_of Free = 4096
