-- There is one list of restrictions.
use Rattle.dom_domains.proofs.RestrictionLaws.{same_restrictions}
use Rattle.dom_domains.proofs.laws.restrictions_are_unique.Goals as goal

pub returns : goal.returns
returns c = same_restrictions
