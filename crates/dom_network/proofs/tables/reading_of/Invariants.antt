-- The definers so far.
use Rattle.std.proofs.Common.{◌≡◌, take}
use Rattle.dom_network.specs.Completion.{reading_of}
use Rattle.dom_network.proofs.tables.reading_of.Given as goal

abbrev pub invariant-loop-definer : goal.invariant-loop-definer
invariant-loop-definer l = record { reading : l.reading ≡ reading_of l.constraints (take l.definer-index l.definers) }
