use Rattle.std.proofs.Common.{◌≤◌}
use Rattle.dom_cells.specs.Bits.{flags_of}
use Rattle.dom_cells.proofs.BitLaws.{AllDown}
use Rattle.dom_cells.proofs.flags.last_set.Given as goal

abbrev pub invariant-loop-after : goal.invariant-loop-after
invariant-loop-after l = record {
  within : l.after ≤ l.below;
  down : AllDown (flags_of l.words l.count) l.after l.below;
}

abbrev pub decreases-loop-after : goal.decreases-loop-after
decreases-loop-after l = l.after
