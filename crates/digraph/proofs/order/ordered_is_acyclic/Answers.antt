use Rattle.digraph.proofs.OrderLaws.{ordered_acyclic}
use Rattle.digraph.proofs.order.ordered_is_acyclic.Goals as goal

pub returns : goal.returns
returns c = ordered_acyclic
