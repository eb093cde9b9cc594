-- One constraint more.
use Rattle.std.proofs.Common.{get_or, subst}
use Rattle.dom_definers.specs.Definers.{IsBelowSome}
use Rattle.dom_definers.specs.declared.posted.Posted.{Posted}
use Rattle.dom_definers.proofs.DefinersLaws.{next_below}
use Rattle.dom_definers.proofs.tests.are_defined_below.Goals as goal

pub loop-posted-preserved : goal.loop-posted-preserved
loop-posted-preserved c = record {
  below = next_below c.args.count c.args.constraints.now c.loop-posted.posted-index c.posted-item.result c.loop-posted-test.true c.loop-posted.invariant.below
      (subst (λ (p : Posted). IsBelowSome c.args.count p.defines) c.posted-item.is c.if-not-is_below.ensures);
}
