-- Every hull is known.
use Rattle.dom_definers.proofs.KnownLaws.{all_known_hulls}
use Rattle.dom_definers.proofs.known.every_hull_is_known.Goals as goal

pub returns : goal.returns
returns c = all_known_hulls
