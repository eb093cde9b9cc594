use Rattle.fzn_syntax.proofs.TextLaws.{one_answer}
use Rattle.fzn_syntax.proofs.parsing.tokens_have_one_answer.Goals as goal

pub returns : goal.returns
returns c = one_answer
