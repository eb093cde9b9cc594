use Rattle.fzn_symbols.proofs.NumberedAnswers.{one_numbering}
use Rattle.fzn_symbols.proofs.numbering.names_have_one_answer.Goals as goal

pub returns : goal.returns
returns c = one_numbering
