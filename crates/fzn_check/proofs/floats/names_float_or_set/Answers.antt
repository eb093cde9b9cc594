use Rattle.fzn_check.specs.Floats.{IsFloatOrSet}
use Rattle.fzn_check.proofs.FoundLaws.{no_such, one_such}
use Rattle.fzn_check.proofs.floats.names_float_or_set.Goals as goal

pub returns-in-None : goal.returns-in-None
returns-in-None c = no_such IsFloatOrSet c.args.scope.now c.args.name.now c.in-None.ensures

pub returns-in-Some : goal.returns-in-Some
returns-in-Some c = one_such IsFloatOrSet c.args.scope.now c.args.name.now c.in-Some.declaration.now c.is_float_or_set.result c.in-Some.ensures c.is_float_or_set.ensures
