use Rattle.std.proofs.Common.{sym}
use Rattle.fzn_check.specs.Places.{named_by}
use Rattle.fzn_check.proofs.EdgeLaws.{with_no_edges, some_left, entries_more}
use Rattle.fzn_check.proofs.graph.add_entries.Goals as goal

pub loop-basic-init : goal.loop-basic-init
loop-basic-init c = record { some = c.requires; edges = sym (with_no_edges c.args.graph.now) }

pub loop-basic-preserved : goal.loop-basic-preserved
loop-basic-preserved c = record {
  some = some_left c.loop-basic.graph c.add_named_by.new.graph (named_by c.args.scope.now c.basic-item.result) c.loop-basic.invariant.some c.in_ok-add_named_by.ensures;
  edges =
      entries_more (named_by c.args.scope.now) c.args.basics.now c.loop-basic.basic-index c.basic-item.result c.args.graph.now c.loop-basic.graph c.add_named_by.new.graph
      c.loop-basic-test.true c.basic-item.is c.loop-basic.invariant.edges c.in_ok-add_named_by.ensures;
}
