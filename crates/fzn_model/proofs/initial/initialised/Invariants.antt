-- The variables so far are marked, and the rest is to be.
use Rattle.std.proofs.Common.{◌≡◌, ◌++◌, drop}
use Rattle.fzn_model.specs.Posting.{initialised}
use Rattle.fzn_model.proofs.initial.initialised.Given as goal

abbrev pub invariant-loop-declaration : goal.invariant-loop-declaration
invariant-loop-declaration l = l.flags.items ++ initialised (drop l.declaration-index l.declarations) ≡ initialised l.declarations
