use Rattle.std.proofs.Common.{◌-◌, ◌≤◌}
use Rattle.dom_cells.specs.Bits.{flags_of}
use Rattle.dom_cells.proofs.BitLaws.{AllDown}
use Rattle.dom_cells.proofs.flags.first_set.Given as goal

abbrev pub invariant-loop-at : goal.invariant-loop-at
invariant-loop-at l = record {
  after : l.from ≤ l.at;
  within : l.at ≤ l.count;
  down : AllDown (flags_of l.words l.count) l.from l.at;
}

abbrev pub decreases-loop-at : goal.decreases-loop-at
decreases-loop-at l = l.count - l.at
