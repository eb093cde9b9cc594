use Rattle.std.proofs.Common.{sym, subst, ap, ◌∙◌}
use Rattle.digraph.specs.Met.{met_with_all}
use Rattle.digraph.proofs.SearchLaws.{IsSearching, begins, turn, is_decided}
use Rattle.digraph.proofs.cycle.is_on_cycle.Goals as goal

pub loop-next-init : goal.loop-next-init
loop-next-init c =
    subst (λ m. IsSearching c.args.graph.now c.args.node m 0) (sym (c.in_ok-meet_all.ensures ∙ ap (met_with_all _) c.successors.ensures))
    (begins c.args.graph.now c.args.node _ _ c.len.ensures c.in_ok-search.ensures.seen c.in_ok-search.ensures.order)

pub successors-requires-in-Some : goal.successors-requires-in-Some
successors-requires-in-Some c = (c.loop-next.invariant.known.nodes _ _ (sym c.in-Some.ensures)).0

pub loop-next-smaller : goal.loop-next-smaller
loop-next-smaller c = (turn _ _ _ _ _ _ _ c.loop-next.invariant (sym c.in-Some.ensures) c.successors-in-Some.ensures c.in_ok-meet_all-2.ensures).1

pub loop-next-preserved : goal.loop-next-preserved
loop-next-preserved c = (turn _ _ _ _ _ _ _ c.loop-next.invariant (sym c.in-Some.ensures) c.successors-in-Some.ensures c.in_ok-meet_all-2.ensures).0

pub returns : goal.returns
returns c = is_decided _ _ _ _ _ c.requires c.loop-next.invariant (λ t e. c.in_default.not-Some t (c.met_at.ensures ∙ e)) c.is_met.ensures
