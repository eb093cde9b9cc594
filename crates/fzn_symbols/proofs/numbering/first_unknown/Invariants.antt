-- None of those so far is unknown.
use Rattle.std.proofs.Common.{ℕ, ◌<◌}
use Rattle.fzn_symbols.specs.Marks.{marks_of}
use Rattle.fzn_symbols.specs.Numbered.{IsUnknown}
use Rattle.fzn_symbols.proofs.numbering.first_unknown.Given as goal

abbrev pub invariant-loop-occurrence : goal.invariant-loop-occurrence
invariant-loop-occurrence l = (j at : ℕ) → j < l.occurrence-index → IsUnknown l.names (marks_of l.occurrences) j at → ⊥
