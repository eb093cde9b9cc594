use Rattle.std.proofs.Common.{get_or, take, sym, ap, ◌∙◌}
use Rattle.std.proofs.lemmas.List.{take_more}
use Rattle.digraph.specs.Met.{met_with, met_with_all}
use Rattle.digraph.proofs.MetLaws.{met_push}
use Rattle.digraph.proofs.search.Search.meet_all.Goals as goal

pub loop-node-preserved : goal.loop-node-preserved
loop-node-preserved c =
    let nodes = c.args.nodes.now in
    let i = c.loop-node.node-index in
    c.in_ok-meet.ensures ∙ ap (λ m. met_with m (get_or nodes i 0)) c.loop-node.invariant ∙ sym (met_push c.args.self.now (take i nodes) (get_or nodes i 0))
    ∙ ap (met_with_all c.args.self.now) (sym (take_more nodes i 0 c.loop-node-test.true))
