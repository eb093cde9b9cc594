-- The set holds the integers so far, which are different.
use Rattle.std.proofs.Common.{ℤ}
use Rattle.std.specs.Ordering.{int_cmp}
use Rattle.std.specs.BTreeSet.{contains}
use Rattle.fzn_check.proofs.Different.{AreSeen}
use Rattle.fzn_check.proofs.covers.are_different.Given as goal

abbrev pub invariant-loop-place : goal.invariant-loop-place
invariant-loop-place l = AreSeen l.ints l.place (λ (q : ℤ). contains int_cmp l.seen q)
