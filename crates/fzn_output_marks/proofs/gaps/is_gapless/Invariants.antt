-- No gap stands before this place.
use Rattle.std.proofs.Common.{ℕ, ◌+◌, ◌<◌, get_or, pos, ◌+ℤ◌, ◌≤ℤ◌}
use Rattle.fzn_output_marks.proofs.gaps.is_gapless.Given as goal

abbrev pub invariant-loop-i : goal.invariant-loop-i
invariant-loop-i l = (k : ℕ) → k + 1 < l.i → get_or l.values (k + 1) (pos 0) ≤ℤ (get_or l.values k (pos 0) +ℤ pos 1)
