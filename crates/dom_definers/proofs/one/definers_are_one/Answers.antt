-- They are one.
use Rattle.dom_definers.proofs.OneLaws.{one_definers}
use Rattle.dom_definers.proofs.one.definers_are_one.Goals as goal

pub returns : goal.returns
returns c = one_definers
