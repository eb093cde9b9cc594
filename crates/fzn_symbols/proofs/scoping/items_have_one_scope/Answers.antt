use Rattle.fzn_symbols.proofs.ScopedAnswers.{one_scope}
use Rattle.fzn_symbols.proofs.scoping.items_have_one_scope.Goals as goal

pub returns : goal.returns
returns c = one_scope c.names_have_one_answer.ensures
