use Rattle.fzn_symbols.proofs.ScopedAnswers.{names_told, different}
use Rattle.fzn_symbols.proofs.scoping.scope_of.Goals as goal

pub new-requires-clause-numbered : goal.new-requires-clause-numbered
new-requires-clause-numbered c = rw c.as_slice.ensures (names_told c.args.items.now c.in_ok-names.names c.in_ok-names.ensures)

pub new-requires-clause-different : goal.new-requires-clause-different
new-requires-clause-different c = rw c.as_slice.ensures (different c.args.items.now c.in_ok-names.ensures.1)
