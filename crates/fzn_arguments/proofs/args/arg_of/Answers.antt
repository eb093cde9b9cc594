use Rattle.fzn_arguments.proofs.Told.{stands_for_nothing}
use Rattle.fzn_arguments.proofs.args.arg_of.Goals as goal

pub returns-in-None-variable_of : goal.returns-in-None-variable_of
returns-in-None-variable_of c = stands_for_nothing c.args.values.now c.args.form c.args.basic.now c.in-None.ensures c.in-None-variable_of.ensures
