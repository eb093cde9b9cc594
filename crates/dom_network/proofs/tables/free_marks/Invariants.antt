-- The definers so far.
use Rattle.std.proofs.Common.{◌≡◌, take}
use Rattle.dom_network.specs.Tables.{free_marks}
use Rattle.dom_network.proofs.tables.free_marks.Given as goal

abbrev pub invariant-loop-definer : goal.invariant-loop-definer
invariant-loop-definer l = record { marks : l.marks.items ≡ free_marks (take l.definer-index l.definers) }
