use Rattle.fzn_totality.proofs.Drafting.{has_unbuilt}
use Rattle.fzn_totality.proofs.Search.{has_no_draft}
use Rattle.fzn_totality.proofs.law.unbuilt_is_undrafted.Goals as goal

pub returns-clause-undrafted : goal.returns-clause-undrafted
returns-clause-undrafted c = has_unbuilt c.one_row.ensures

pub returns-clause-unbuilt : goal.returns-clause-unbuilt
returns-clause-unbuilt c = has_no_draft c.one_row.ensures
