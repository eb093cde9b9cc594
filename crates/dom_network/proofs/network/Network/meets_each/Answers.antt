-- Each constraint fits where the values lie in the hulls.
use Rattle.dom_network.proofs.HullLaws.{fit_read, holds_below, holds_fits}
use Rattle.dom_network.proofs.KeptLaws.{kept_constraints, kept_network}
use Rattle.dom_network.proofs.network.Network.meets_each.Goals as goal

pub holds-requires-clause-below : goal.holds-requires-clause-below
holds-requires-clause-below c =
    let net = kept_network _ c.args.self.now _ _ _ _ _ c.self.view_is c.self.invariant in
    let all = kept_constraints _ c.args.self.now _ _ _ _ _ c.self.view_is c.self.invariant c.deref-kind-items.result.now c.deref-kind-items.ensures.value in
    let fit = fit_read c.args.self.now.hulls c.args.self.now.constraints c.deref-kind-items.result.now c.loop-kind.kind-index c.kind-item.result net.fit all c.loop-kind-test.true c.kind-item.is in
    holds_below c.args.self.now.hulls c.args.a.now c.kind-item.result fit c.requires

pub holds-requires-clause-fits : goal.holds-requires-clause-fits
holds-requires-clause-fits c =
    let net = kept_network _ c.args.self.now _ _ _ _ _ c.self.view_is c.self.invariant in
    let all = kept_constraints _ c.args.self.now _ _ _ _ _ c.self.view_is c.self.invariant c.deref-kind-items.result.now c.deref-kind-items.ensures.value in
    let fit = fit_read c.args.self.now.hulls c.args.self.now.constraints c.deref-kind-items.result.now c.loop-kind.kind-index c.kind-item.result net.fit all c.loop-kind-test.true c.kind-item.is in
    holds_fits c.args.self.now.hulls c.args.a.now c.kind-item.result fit c.requires
