use Rattle.std.proofs.Common.{ℕ, ◌-◌, ◌<◌, ◌≤◌, length, get_or, pos, ◌<ℤ◌}
use Rattle.dom_core.proofs.domain.is_listed.Given as goal

-- all before `low` are less, and all from `high` on are greater
abbrev pub invariant-loop-low : goal.invariant-loop-low
invariant-loop-low l = record {
  within : l.high ≤ length l.fn.values;
  less : (k : ℕ) → k < l.low → get_or l.fn.values k (pos 0) <ℤ l.fn.value;
  greater : (k : ℕ) → l.high ≤ k → k < length l.fn.values → l.fn.value <ℤ get_or l.fn.values k (pos 0);
}

abbrev pub decreases-loop-low : goal.decreases-loop-low
decreases-loop-low l = l.high - l.low
