use Rattle.std.proofs.Common.{length, ap, arith}
use Rattle.digraph.proofs.RowLaws.{length-rows_of, end_of, row_between}
use Rattle.digraph.proofs.graph.Digraph.successors.Goals as goal

pub index-start-requires : goal.index-start-requires
index-start-requires c = omega (arith, c.requires, length-rows_of c.self.inside.starts.items c.self.inside.targets.items, ap length c.self.view_is)

pub next_of-end-requires : goal.next_of-end-requires
next_of-end-requires c = omega (arith, c.requires, length-rows_of c.self.inside.starts.items c.self.inside.targets.items, ap length c.self.view_is, ap length c.deref.ensures.value)

pub part-requires-clause-order : goal.part-requires-clause-order
part-requires-clause-order c =
    let end = end_of c.self.inside.starts.items c.self.inside.targets.items _ _ c.args.node _ _ _ c.deref.ensures.value c.deref-2.ensures.value c.deref-2.ensures.len c.len.ensures c.next_of-end.ensures in
    (row_between _ _ _ _ _ _ c.self.view_is c.requires c.self.invariant c.index-start.ensures end).0

pub part-requires-clause-within : goal.part-requires-clause-within
part-requires-clause-within c =
    let end = end_of c.self.inside.starts.items c.self.inside.targets.items _ _ c.args.node _ _ _ c.deref.ensures.value c.deref-2.ensures.value c.deref-2.ensures.len c.len.ensures c.next_of-end.ensures in
    rw c.deref-2.ensures.value (row_between _ _ _ _ _ _ c.self.view_is c.requires c.self.invariant c.index-start.ensures end).1

pub returns : goal.returns
returns c =
    let end = end_of c.self.inside.starts.items c.self.inside.targets.items _ _ c.args.node _ _ _ c.deref.ensures.value c.deref-2.ensures.value c.deref-2.ensures.len c.len.ensures c.next_of-end.ensures in
    let row = (row_between _ _ _ _ _ _ c.self.view_is c.requires c.self.invariant c.index-start.ensures end).2 in
    let targets = c.deref-2.ensures.value in
    let part = c.part.ensures in
    cc
