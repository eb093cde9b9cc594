use Rattle.fzn_model.proofs.Whole.{drafts_one}
use Rattle.fzn_model.proofs.drafting.one_draft.Goals as goal

pub returns : goal.returns
returns c = drafts_one c.one_kind.ensures c.one_argument.ensures.scalar c.one_argument.ensures.list
