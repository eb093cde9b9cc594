-- The index sets so far.
use Rattle.std.proofs.Common.{◌≡◌, ◌++◌, take}
use Rattle.dom_report.specs.Text.{sets_text_of}
use Rattle.dom_report.proofs.array.write_sets.Given as goal

abbrev pub invariant-loop-set : goal.invariant-loop-set
invariant-loop-set l = l.text.items ≡ l.fn.text.items ++ sets_text_of (take l.set-index l.sets)
