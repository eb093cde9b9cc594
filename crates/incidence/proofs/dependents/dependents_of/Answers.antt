-- One node of the order more.
use Rattle.std.proofs.Common.{◌≡◌, ℕ, get_or, length, ◌<◌, arith}
use Rattle.std.proofs.lemmas.List.{get_or_default}
use Rattle.incidence.proofs.DependentsLaws.{found_step, ordered_below}
use Rattle.incidence.proofs.dependents.dependents_of.Goals as goal

pub successors-requires : goal.successors-requires
successors-requires c =
    let i = c.loop-node.node-index in
    let node = get_or c.args.order.now i 0 in
    ordered_below c.args.graph.now c.args.order.now c.args.among.now c.requires.order i node c.loop-node-test.true (get_or_default c.args.order.now i 0 node c.loop-node-test.true)

pub set-requires : goal.set-requires
set-requires c =
    let i = c.loop-node.node-index in
    let node = get_or c.args.order.now i 0 in
    let below : node < length c.args.graph.now = ordered_below c.args.graph.now c.args.order.now c.args.among.now c.requires.order i node c.loop-node-test.true
    (get_or_default c.args.order.now i 0 node c.loop-node-test.true) in
    omega (arith, below, c.loop-node.invariant.found.known.whole)

pub loop-node-preserved : goal.loop-node-preserved
loop-node-preserved c =
    let i = c.loop-node.node-index in
    let node = get_or c.args.order.now i 0 in
    record {
      found = found_step c.args.graph.now c.args.order.now c.args.among.now c.requires.order i node c.loop-node-test.true (get_or_default c.args.order.now i 0 node c.loop-node-test.true)
          c.loop-node.sources c.loop-node.dependents c.meet_sources.new.dependents c.set.new.self c.successors.result.now c.new-met.result c.meet_sources.new.met
          c.loop-node.invariant.found c.successors.ensures c.new-met.ensures c.set.ensures c.in_ok-meet_sources.ensures;
    }
