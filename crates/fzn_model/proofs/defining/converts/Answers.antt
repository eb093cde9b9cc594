use Rattle.fzn_model.proofs.DefiningLaws.{unlisted_converts, entry_converts}
use Rattle.fzn_model.proofs.defining.converts.Goals as goal

pub returns-in-None : goal.returns-in-None
returns-in-None c = (λ t. absurd cc, λ h. absurd (unlisted_converts c.args.name.now c.in-None.ensures h))

pub returns-in-Some : goal.returns-in-Some
returns-in-Some c = entry_converts c.one_row.ensures c.args.name.now _ c.is_conversion.result c.in-Some.ensures c.is_conversion.ensures
