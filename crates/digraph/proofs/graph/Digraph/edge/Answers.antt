use Rattle.std.proofs.Common.{◌<◌, length, ap, add-one, arith}
use Rattle.std.proofs.lemmas.List.{length_push}
use Rattle.digraph.proofs.RowLaws.{rises_edge, gains_edge, length-rows_of}
use Rattle.digraph.proofs.graph.Digraph.edge.Goals as goal

pub invariant_of-self-2 : goal.invariant_of-self-2
invariant_of-self-2 c = rw (c.in_ok-push.ensures.items, length_push, add-one) (rises_edge _ _ c.self.invariant)

pub returns-clause-ok : goal.returns-clause-ok
returns-clause-ok c =
    let some : 0 < length c.self.inside.starts.items = omega (arith, c.requires, length-rows_of c.self.inside.starts.items c.self.inside.targets.items, ap length c.self.view_is) in
    rw (c.in_ok-push.ensures.items, ← c.self.view_is) (gains_edge _ _ _ some c.self.invariant)
