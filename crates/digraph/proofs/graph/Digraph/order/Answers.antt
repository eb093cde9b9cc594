use Rattle.std.proofs.Common.{arith}
use Rattle.digraph.proofs.StepLaws.{rested_order}
use Rattle.digraph.proofs.graph.Digraph.order.Goals as goal

pub returns : goal.returns
returns c = rested_order _ _ _ _ c.loop-root.invariant (omega (arith, c.len-root-end.ensures)) c.into_order.ensures
