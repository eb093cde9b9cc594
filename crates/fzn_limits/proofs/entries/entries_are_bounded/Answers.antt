use Rattle.fzn_limits.specs.Entries.{expression_entries, constraint_entries}
use Rattle.fzn_limits.proofs.Sums.{bounded}
use Rattle.fzn_limits.proofs.entries.entries_are_bounded.Goals as goal

pub returns-clause-arguments : goal.returns-clause-arguments
returns-clause-arguments c ds constraint most few = bounded (expression_entries ds) constraint.arguments most few

pub returns-clause-constraints : goal.returns-clause-constraints
returns-clause-constraints c ds cs most few = bounded (constraint_entries ds) cs most few
