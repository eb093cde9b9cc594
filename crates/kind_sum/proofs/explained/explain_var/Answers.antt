use Rattle.std.proofs.Common.{◌≡◌, ◌*◌, ◌-◌, ◌+◌, pos, subst, arith, unsigned_abs, w64}
use Rattle.std.proofs.lemmas.Int.{to_z-of_z}
use Rattle.kind_law.specs.declared.side.Side.{Side}
use Rattle.kind_law.specs.Reason.{CoversEnd, IsReach}
use Rattle.kind_sum.specs.Explained.{edge_side}
use Rattle.kind_sum.proofs.ExplainedLaws.{reach_pays, told_pays}
use Rattle.kind_sum.proofs.explained.explain_var.Goals as goal

pub returns-then-price-slack-clause-pays : goal.returns-then-price-slack-clause-pays
returns-then-price-slack-clause-pays c =
    let side : c.edge_side-side.result ≡ edge_side c.args.turned c.args.coef = rw (to_z-of_z w64 c.args.coef c.ranges.coef) at c.edge_side-side.ensures in
    let price : c.price_of-price.result ≡ unsigned_abs c.args.coef * c.reach.result = rw (to_z-of_z w64 c.args.coef c.ranges.coef) at c.price_of-price.ensures in
    let near : IsReach (edge_side c.args.turned c.args.coef) c.args.cells.now.state c.args.implied c.args.var.0 (pos c.reach.result) =
    subst (λ (q : Side). IsReach q c.args.cells.now.state c.args.implied c.args.var.0 (pos c.reach.result)) side c.reach.ensures in
    let rest : (c.args.slack - c.price_of-price.result) + c.price_of-price.result ≡ c.args.slack = omega (arith, c.if-price-slack.true) in
    reach_pays c.args.turned c.args.cells.now.state c.args.implied c.args.out.now c.args.coef c.args.var c.reach.result c.price_of-price.result c.args.slack
    (c.args.slack - c.price_of-price.result) near price rest

pub returns-clause-pays : goal.returns-clause-pays
returns-clause-pays c =
    let side : c.edge_side-side.result ≡ edge_side c.args.turned c.args.coef = rw (to_z-of_z w64 c.args.coef c.ranges.coef) at c.edge_side-side.ensures in
    told_pays c.args.turned c.args.cells.now.state c.args.implied c.explain_end.new.out c.args.coef c.args.var c.args.slack
    (subst (λ (q : Side). CoversEnd q c.args.cells.now.state c.args.implied c.explain_end.new.out c.args.var.0) side c.in_ok-explain_end.ensures.covers)
