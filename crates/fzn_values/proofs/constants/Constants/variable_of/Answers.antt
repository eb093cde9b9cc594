use Rattle.fzn_values.proofs.Told.{variable_by_name}
use Rattle.fzn_values.proofs.constants.Constants.variable_of.Goals as goal

pub returns-in-Some : goal.returns-in-Some
returns-in-Some c = variable_by_name c.args.self.now c.args.basic.now c.in-Some.name.now c.variable_named.result c.in-Some.ensures c.variable_named.ensures
