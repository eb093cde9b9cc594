use Rattle.digraph.proofs.GrownLaws.{node_some, edge_some}
use Rattle.digraph.proofs.tests.add.Goals as goal

pub loop-to-init : goal.loop-to-init
loop-to-init c = node_some _ _ c.in_ok-node.ensures.ok

pub loop-to-preserved : goal.loop-to-preserved
loop-to-preserved c = edge_some _ _ _ c.in_ok-edge.ensures.ok
