use Rattle.fzn_arguments.proofs.Told.{named}
use Rattle.fzn_arguments.proofs.args.variable_of.Goals as goal

pub returns-in-Name : goal.returns-in-Name
returns-in-Name c =
    named c.args.values.now c.args.form c.args.basic.now c.in-Name.name c.variable_named.result c.in-Name.is (rw (← c.scope.ensures, ← c.as_bytes.ensures) c.variable_named.ensures)
