use Rattle.fzn_check.proofs.Told.{length_none, length_is, length_only}
use Rattle.fzn_check.proofs.length.length_of_name.Goals as goal

pub returns-in-None-clause-is : goal.returns-in-None-clause-is
returns-in-None-clause-is c = length_none c.args.scope.now c.args.basic.now c.in-Name.name c.as_bytes.result.now c.in-Name.is c.as_bytes.ensures c.in-None.ensures

pub returns-in-Some-clause-is : goal.returns-in-Some-clause-is
returns-in-Some-clause-is c =
    length_is c.args.scope.now c.args.basic.now c.in-Name.name c.as_bytes.result.now c.in-Some.declaration.now c.last_of.result c.in-Name.is c.as_bytes.ensures c.in-Some.ensures c.last_of.ensures

pub returns-in-Some-clause-only : goal.returns-in-Some-clause-only
returns-in-Some-clause-only c =
    length_only c.args.scope.now c.args.basic.now c.in-Name.name c.as_bytes.result.now c.in-Some.declaration.now c.last_of.result c.in-Name.is c.as_bytes.ensures c.in-Some.ensures c.last_of.ensures
