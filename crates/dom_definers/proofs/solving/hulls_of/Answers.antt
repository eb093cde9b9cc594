-- One hull more.
use Rattle.std.proofs.Common.{◌∙◌, refl, sym, ap, subst, length, get_or, slice_get, List, Option}
use Rattle.std.proofs.lemmas.List.{length-set}
use Rattle.dom_core.specs.Ends.{Ends}
use Rattle.dom_definers.specs.Definers.{definer_at}
use Rattle.dom_definers.specs.Hulls.{IsHull, declared_or_none, own_hull}
use Rattle.dom_definers.proofs.SolvingLaws.{order_below, next_hull, all_found}
use Rattle.dom_definers.proofs.solving.hulls_of.Goals as goal

pub solve-requires-clause-node : goal.solve-requires-clause-node
solve-requires-clause-node c =
    order_below c.args.variables.now c.args.constraints.now c.args.definers.now c.args.order.now c.loop-node.node-index c.requires.whole c.requires.order c.loop-node-test.true

pub loop-node-preserved : goal.loop-node-preserved
loop-node-preserved c =
    let node = get_or c.args.order.now c.loop-node.node-index 0 in
    let hull = own_hull c.args.constraints.now (definer_at c.args.definers.now node) (declared_or_none (slice_get c.args.variables.now node)) c.loop-node.hulls in
    record {
      size = ap (λ (hs : List (Option Ends)). length hs) c.solve.ensures.set ∙ length-set c.loop-node.hulls node hull ∙ c.loop-node.invariant.size;
      small = c.solve.ensures.small;
      found = λ k kl. subst (λ (hs : List (Option Ends)). IsHull c.args.variables.now c.args.constraints.now c.args.definers.now hs (get_or c.args.order.now k 0)) (sym c.solve.ensures.set)
          (next_hull c.args.variables.now c.args.constraints.now c.args.definers.now c.args.order.now c.loop-node.hulls c.loop-node.node-index hull c.requires.whole c.loop-node.invariant.size
          c.requires.definers c.requires.order c.loop-node.invariant.small c.loop-node-test.true refl c.loop-node.invariant.found k kl);
    }

pub returns : goal.returns
returns c = record {
  whole = c.loop-node.invariant.size;
  each = all_found c.args.variables.now c.args.constraints.now c.args.definers.now c.args.order.now c.loop-node.hulls c.loop-node.node-index c.requires.whole c.requires.order c.loop-node-test.false
      c.loop-node.invariant.found;
}
