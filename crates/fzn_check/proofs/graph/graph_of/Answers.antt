use Rattle.fzn_check.specs.Places.{successors}
use Rattle.fzn_check.proofs.EdgeLaws.{nodes_more}
use Rattle.fzn_check.proofs.graph.graph_of.Goals as goal

pub loop-declaration-preserved : goal.loop-declaration-preserved
loop-declaration-preserved c =
    nodes_more (successors c.args.scope.now) c.declarations-declarations.result.now c.loop-declaration.declaration-index c.declaration-item.result c.loop-declaration.graph c.node.new.self
    c.add_successors.new.graph c.loop-declaration-test.true c.declaration-item.is c.loop-declaration.invariant c.in_ok-node.ensures.ok c.in_ok-add_successors.ensures
