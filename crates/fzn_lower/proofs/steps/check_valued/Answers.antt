use Rattle.fzn_lower.proofs.Entries.{entries_fit}
use Rattle.fzn_lower.proofs.steps.check_valued.Goals as goal

pub check_last-requires-clause-few : goal.check_last-requires-clause-few
check_last-requires-clause-few c = entries_fit c.args.items.now c.requires.sized c.requires.named c.requires.typed c.in_ok-check_constraints.ensures
