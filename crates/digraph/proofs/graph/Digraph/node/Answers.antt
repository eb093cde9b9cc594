use Rattle.std.proofs.Common.{◌≡◌, length, rules}
use Rattle.std.specs.Vec.{vec_len}
use Rattle.digraph.proofs.RowLaws.{rises_node, gains_node}
use Rattle.digraph.proofs.graph.Digraph.node.Goals as goal

pub invariant_of-self-2 : goal.invariant_of-self-2
invariant_of-self-2 c =
    let all : vec_len c.self.inside.targets ≡ length c.self.inside.targets.items = search rules in
    rw (c.in_ok-push.ensures.items, c.len-start.ensures, all) (rises_node _ _ c.self.invariant)

pub returns-clause-ok : goal.returns-clause-ok
returns-clause-ok c =
    let all : vec_len c.self.inside.targets ≡ length c.self.inside.targets.items = search rules in
    rw (c.in_ok-push.ensures.items, c.len-start.ensures, all, ← c.self.view_is) (gains_node _ _)
