use Rattle.std.proofs.Common.{sym}
use Rattle.fzn_values.proofs.Told.{int_written, int_unnamed, int_named}
use Rattle.fzn_values.proofs.constants.Constants.int_of.Goals as goal

pub returns-in-None : goal.returns-in-None
returns-in-None c = int_written c.args.self.now c.args.basic.now c.integer_in.result (sym c.in-None.ensures) c.integer_in.ensures

pub returns-in-None-literal_named : goal.returns-in-None-literal_named
returns-in-None-literal_named c = int_unnamed c.args.self.now c.args.basic.now c.in-Some.name.now (sym c.in-Some.ensures) c.in-None-literal_named.ensures

pub returns-in-Some-literal_named : goal.returns-in-Some-literal_named
returns-in-Some-literal_named c =
    int_named c.args.self.now c.args.basic.now c.integer_of.result c.in-Some.name.now c.in-Some-literal_named.literal.now (sym c.in-Some.ensures) c.in-Some-literal_named.ensures c.integer_of.ensures
