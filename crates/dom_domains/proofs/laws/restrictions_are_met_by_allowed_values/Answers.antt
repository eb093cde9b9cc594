-- One restriction, and all.
use Rattle.dom_domains.proofs.RestrictionLaws.{met_allowed, met_defined}
use Rattle.dom_domains.proofs.laws.restrictions_are_met_by_allowed_values.Goals as goal

pub returns-clause-one : goal.returns-clause-one
returns-clause-one c = met_allowed

pub returns-clause-all : goal.returns-clause-all
returns-clause-all c = met_defined
