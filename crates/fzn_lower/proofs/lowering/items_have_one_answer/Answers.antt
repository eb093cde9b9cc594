use Rattle.fzn_lower.proofs.Single.{one_answer}
use Rattle.fzn_lower.proofs.lowering.items_have_one_answer.Goals as goal

pub returns : goal.returns
returns c =
    one_answer c.items_have_one_scope.ensures c.declarations_have_one_first_fault.ensures c.constraints_have_one_first_fault.ensures
    c.one_draft.ensures c.unbuilt_is_undrafted.ensures.unbuilt c.drafts_have_one_outcome.ensures
