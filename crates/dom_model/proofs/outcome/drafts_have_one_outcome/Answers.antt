-- One outcome.
use Rattle.dom_model.proofs.OutcomeLaws.{one_outcome}
use Rattle.dom_model.proofs.outcome.drafts_have_one_outcome.Goals as goal

pub returns : goal.returns
returns c = one_outcome c.ordered_is_acyclic.ensures
