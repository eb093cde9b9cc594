-- They are one.
use Rattle.dom_definers.proofs.OneLaws.{one_hulls}
use Rattle.dom_definers.proofs.one.hulls_are_one.Goals as goal

pub returns : goal.returns
returns c = one_hulls
