-- The hull of a declaration with a value goes from the first to the last.
use Rattle.dom_domains.proofs.AllowedLaws.{hull_of_values}
use Rattle.dom_domains.proofs.laws.hulls_go_from_first_to_last.Goals as goal

pub returns : goal.returns
returns c = hull_of_values
