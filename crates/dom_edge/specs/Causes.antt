-- When a call may answer that it failed.
use Rattle.std.specs.Prelude.{ℕ, ◌+◌, ◌-◌, ◌^◌, ◌≤◌, min, Result, OnErr}

-- a count of 64 bits went up, or stands at its end
abbrev pub CountRose : ℕ → ℕ → Type 0
CountRose old new = min (old + 1) (2 ^ 64 - 1) ≤ new

-- the count has not fallen, and the call failed only where it rose
pub record HasCause {T E : Type 0} (old new : ℕ) (result : Result T E) : Type 0 where
  pub kept : old ≤ new
  pub failed : OnErr result (CountRose old new)
