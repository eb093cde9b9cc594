-- From the laws of tokens, items and models.
use Rattle.dom_top.proofs.Outcomes.{one_outcome}
use Rattle.dom_top.proofs.texts.every_text_has_one_outcome.Goals as goal

pub returns : goal.returns
returns c = one_outcome c.every_text_has_one_answer.ensures c.tokens_have_one_answer.ensures c.items_have_one_answer.ensures
