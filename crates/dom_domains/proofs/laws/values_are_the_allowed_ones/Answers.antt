-- A value is allowed exactly where it is one of the variable's values, and an assignment where each of its values is.
use Rattle.dom_domains.proofs.AllowedLaws.{allowed_listed, allowed_places}
use Rattle.dom_domains.proofs.laws.values_are_the_allowed_ones.Goals as goal

pub returns-clause-values : goal.returns-clause-values
returns-clause-values c = allowed_listed

pub returns-clause-each : goal.returns-clause-each
returns-clause-each c = allowed_places
