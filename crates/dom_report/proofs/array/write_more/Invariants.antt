-- The entries so far.
use Rattle.std.proofs.Common.{◌≡◌, ◌++◌, take}
use Rattle.dom_report.specs.Text.{more_entries_of}
use Rattle.dom_report.proofs.array.write_more.Given as goal

abbrev pub invariant-loop-entry : goal.invariant-loop-entry
invariant-loop-entry l = l.text.items ≡ l.fn.text.items ++ more_entries_of l.assignment l.form (take l.entry-index l.entries)
