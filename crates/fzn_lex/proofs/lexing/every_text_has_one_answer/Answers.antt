-- A text is cut in one way, and the cutting has one answer.
use Rattle.fzn_lex.proofs.OneAnswer.{one_answer}
use Rattle.fzn_lex.proofs.lexing.every_text_has_one_answer.Goals as goal

pub returns : goal.returns
returns c = one_answer
