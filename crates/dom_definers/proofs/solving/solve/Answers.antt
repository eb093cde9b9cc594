-- The hull of one node.
use Rattle.std.proofs.Common.{◌∙◌, sym, ap, subst, ℕ, set, Option}
use Rattle.dom_core.specs.Ends.{Ends}
use Rattle.dom_definers.specs.Definers.{definer_at}
use Rattle.dom_definers.specs.Hulls.{IsFitDefiner, IsSmallHull, own_hull}
use Rattle.dom_definers.proofs.SolvingLaws.{declared_read}
use Rattle.dom_definers.proofs.solving.solve.Goals as goal

pub own_hull-hull-requires-clause-definer : goal.own_hull-hull-requires-clause-definer
own_hull-hull-requires-clause-definer c =
    subst (λ (n : ℕ). IsFitDefiner n c.args.constraints.now (definer_at c.args.definers.now c.args.node)) (sym c.requires.size) (c.requires.definers c.args.node)

pub own_hull-hull-requires-clause-small : goal.own_hull-hull-requires-clause-small
own_hull-hull-requires-clause-small c =
    subst IsSmallHull (declared_read c.args.variables.now c.args.node c.index-variables-node.result c.requires.node c.index-variables-node.is) (c.requires.small c.args.node)

pub returns-clause-set : goal.returns-clause-set
returns-clause-set c =
    c.set.ensures.set ∙ ap (λ (h : Option Ends). set c.args.hulls.now c.args.node h) (c.own_hull-hull.ensures.hull
    ∙ ap (λ (e : Option Ends). own_hull c.args.constraints.now (definer_at c.args.definers.now c.args.node) e c.args.hulls.now)
    (sym (declared_read c.args.variables.now c.args.node c.index-variables-node.result c.requires.node c.index-variables-node.is)))
