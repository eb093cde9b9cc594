use Rattle.std.proofs.Common.{sym}
use Rattle.fzn_values.proofs.Told.{list_written, list_unnamed, list_named}
use Rattle.fzn_values.proofs.constants.Constants.list_of.Goals as goal

pub returns-in-None : goal.returns-in-None
returns-in-None c = list_written c.args.self.now c.args.expression.now c.list_in.result (sym c.in-None.ensures) c.list_in.ensures

pub returns-in-None-literal_named : goal.returns-in-None-literal_named
returns-in-None-literal_named c = list_unnamed c.args.self.now c.args.expression.now c.in-Some.name.now (sym c.in-Some.ensures) c.in-None-literal_named.ensures

pub returns-in-Some-literal_named : goal.returns-in-Some-literal_named
returns-in-Some-literal_named c =
    list_named c.args.self.now c.args.expression.now c.list_in-in-Some-literal_named.result c.in-Some.name.now c.in-Some-literal_named.literal.now (sym c.in-Some.ensures) c.in-Some-literal_named.ensures
    c.list_in-in-Some-literal_named.ensures
