-- No declaration so far is at fault.
use Rattle.std.proofs.Common.{ℕ, ◌<◌}
use Rattle.fzn_check.specs.DeclarationFaults.{IsFineAt}
use Rattle.fzn_check.proofs.declarations.first_declaration_fault.Given as goal

abbrev pub invariant-loop-place : goal.invariant-loop-place
invariant-loop-place l = (j : ℕ) → j < l.place → IsFineAt l.scope j
