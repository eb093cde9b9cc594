-- What the constraint defines.
use Rattle.std.proofs.Common.{◌-◌, ◌<◌, length, subst, sym, arith}
use Rattle.dom_definers.specs.Definers.{IsBelowSome}
use Rattle.dom_definers.specs.declared.posted.Posted.{Posted}
use Rattle.dom_definers.proofs.DefinersLaws.{below_at}
use Rattle.dom_definers.proofs.tests.are_fit_from.Goals as goal

pub if_defined-defined-requires : goal.if_defined-defined-requires
if_defined-defined-requires c =
    subst (λ (p : Posted). IsBelowSome (length c.args.definers.now) p.defines) (sym c.index-constraints-place.is)
    (below_at (length c.args.definers.now) c.args.constraints.now (c.loop-place.place - 1) c.index-constraints-place.result c.requires (omega (arith, c.loop-place.invariant.within, c.loop-place-test.true)))
