use Rattle.std.proofs.Common.{sym}
use Rattle.fzn_values.proofs.Told.{list_at, one_list_at}
use Rattle.fzn_values.proofs.constants.Constants.place_of_list.Goals as goal

pub returns-in-Some-clause-is : goal.returns-in-Some-clause-is
returns-in-Some-clause-is c = list_at c.args.self.now c.args.expression.now c.in-Some.name.now (sym c.in-Some.ensures) c.list_named.result c.list_named.ensures.is

pub returns-in-Some-clause-only : goal.returns-in-Some-clause-only
returns-in-Some-clause-only c = one_list_at c.args.self.now c.args.expression.now c.list_named.ensures.different c.list_named.result
