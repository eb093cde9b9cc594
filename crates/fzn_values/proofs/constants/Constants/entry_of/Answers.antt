use Rattle.fzn_values.proofs.Told.{no_entry}
use Rattle.fzn_values.proofs.constants.Constants.entry_of.Goals as goal

pub returns-in-None-variable_of : goal.returns-in-None-variable_of
returns-in-None-variable_of c = no_entry c.args.self.now c.args.basic.now c.in-None.ensures c.in-None-variable_of.ensures
