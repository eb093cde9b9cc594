-- The names that stand before this place are added.
use Rattle.fzn_symbols.specs.Counted.{IsCounted}
use Rattle.fzn_symbols.specs.Marks.{marks_of}
use Rattle.fzn_symbols.proofs.numbering.declare_all.Given as goal

abbrev pub invariant-loop-place : goal.invariant-loop-place
invariant-loop-place l = IsCounted (marks_of l.occurrences) l.place l.names l.double
