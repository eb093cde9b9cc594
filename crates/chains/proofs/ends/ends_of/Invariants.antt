-- The places so far are seen, and each mark is right.
use Rattle.std.proofs.Common.{◌≡◌, ◌<◌, ℕ, length}
use Rattle.chains.specs.declared.marks.Mark.TheVariants.{Unseen}
use Rattle.chains.specs.Walks.{AreRight, mark_at}
use Rattle.chains.proofs.ends.ends_of.Given as goal

abbrev pub invariant-loop-start : goal.invariant-loop-start
invariant-loop-start l = record {
  size : length l.marks ≡ length l.links;
  right : AreRight l.links l.marks;
  seen : (k : ℕ) → k < l.start → mark_at l.marks k ≡ Unseen → ⊥;
}
