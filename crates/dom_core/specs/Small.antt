-- Integers of a size that sums of a few of them stay far from a machine's ends.
use Rattle.std.specs.Prelude.{ℤ, pos, neg_ℤ, ◌≤ℤ◌, ◌^◌}

-- the integer lies within plus and minus 2 ^ 62
pub record IsSmall (z : ℤ) : Type 0 where
  pub low : neg_ℤ (pos (2 ^ 62)) ≤ℤ z
  pub high : z ≤ℤ pos (2 ^ 62)
