-- Written values, and what is given along the order.
use Rattle.std.proofs.Common.{◌+◌, ◌∙◌, sym, ap, subst, length, List, ℤ, arith}
use Rattle.dom_core.specs.declared.var_id.VarId.{VarId}
use Rattle.dom_network.specs.Filling.{written}
use Rattle.dom_network.specs.Free.{free_of}
use Rattle.dom_network.proofs.CompletionLaws.{IsFilled, filled_first, filled_last, filled_next, next_reads}
use Rattle.dom_network.proofs.FreeLaws.{free_below, tuple_count}
use Rattle.dom_network.proofs.KeptLaws.{kept_free, kept_network, kept_order}
use Rattle.dom_network.proofs.OrderLaws.{order_below}
use Rattle.kind_law.specs.Laws.{AllBelow}
use Rattle.dom_network.proofs.network.Network.complete.Goals as goal

pub write_free-requires-clause-size : goal.write_free-requires-clause-size
write_free-requires-clause-size c =
    let free = kept_free _ c.args.self.now _ _ _ _ _ c.self.view_is c.self.invariant c.as_slice.result.now c.as_slice.ensures.value in
    let net = kept_network _ c.args.self.now _ _ _ _ _ c.self.view_is c.self.invariant in
    tuple_count c.args.self.now.hulls (free_of c.args.self.now.definers) c.args.self.now.domains c.args.values.now net.domains c.requires.tuple ∙ sym (ap (λ (us : List VarId). length us) free)

pub write_free-requires-clause-below : goal.write_free-requires-clause-below
write_free-requires-clause-below c =
    let free = kept_free _ c.args.self.now _ _ _ _ _ c.self.view_is c.self.invariant c.as_slice.result.now c.as_slice.ensures.value in
    subst (λ (us : List VarId). AllBelow (length c.args.out.now) us) (sym free) (free_below c.args.self.now.definers (length c.args.out.now) (omega (arith, c.requires.whole)))

pub loop-node-init : goal.loop-node-init
loop-node-init c =
    let free = kept_free _ c.args.self.now _ _ _ _ _ c.self.view_is c.self.invariant c.as_slice.result.now c.as_slice.ensures.value in
    let net = kept_network _ c.args.self.now _ _ _ _ _ c.self.view_is c.self.invariant in
    let all = c.write_free.ensures ∙ ap (λ (us : List VarId). written us c.args.values.now c.args.out.now) free in
    let count = tuple_count c.args.self.now.hulls (free_of c.args.self.now.definers) c.args.self.now.domains c.args.values.now net.domains c.requires.tuple in
    record {
      filled = subst (λ (a : List ℤ). IsFilled c.args.self.now c.deref-node-items.result.now c.args.values.now a 0) (sym all)
          (filled_first c.args.self.now c.deref-node-items.result.now c.args.values.now c.args.out.now count c.requires.whole);
    }

pub define-requires-clause-node : goal.define-requires-clause-node
define-requires-clause-node c =
    let net = kept_order _ c.args.self.now _ _ _ _ _ c.self.view_is c.self.invariant c.deref-node-items.result.now c.deref-node-items.ensures.value in
    order_below c.args.self.now c.deref-node-items.result.now net c.loop-node.node-index c.loop-node-test.true

pub define-requires-clause-read : goal.define-requires-clause-read
define-requires-clause-read c =
    let net = kept_order _ c.args.self.now _ _ _ _ _ c.self.view_is c.self.invariant c.deref-node-items.result.now c.deref-node-items.ensures.value in
    next_reads c.args.self.now c.deref-node-items.result.now c.args.values.now c.loop-node.out c.loop-node.node-index net c.requires.tuple c.loop-node-test.true c.loop-node.invariant.filled

pub loop-node-preserved : goal.loop-node-preserved
loop-node-preserved c =
    let net = kept_order _ c.args.self.now _ _ _ _ _ c.self.view_is c.self.invariant c.deref-node-items.result.now c.deref-node-items.ensures.value in
    record {
      filled = subst (λ (a : List ℤ). IsFilled c.args.self.now c.deref-node-items.result.now c.args.values.now a (c.loop-node.node-index + 1)) (sym c.define.ensures)
          (filled_next c.args.self.now c.deref-node-items.result.now c.args.values.now c.loop-node.out c.loop-node.node-index net c.requires.tuple c.loop-node-test.true c.loop-node.invariant.filled);
    }

pub returns-clause-completed : goal.returns-clause-completed
returns-clause-completed c =
    let net = kept_order _ c.args.self.now _ _ _ _ _ c.self.view_is c.self.invariant c.deref-node-items.result.now c.deref-node-items.ensures.value in
    (filled_last c.args.self.now c.deref-node-items.result.now c.args.values.now c.loop-node.out c.loop-node.node-index net c.loop-node-test.false c.loop-node.invariant.filled).0

pub returns-clause-inside : goal.returns-clause-inside
returns-clause-inside c =
    let net = kept_order _ c.args.self.now _ _ _ _ _ c.self.view_is c.self.invariant c.deref-node-items.result.now c.deref-node-items.ensures.value in
    (filled_last c.args.self.now c.deref-node-items.result.now c.args.values.now c.loop-node.out c.loop-node.node-index net c.loop-node-test.false c.loop-node.invariant.filled).1
