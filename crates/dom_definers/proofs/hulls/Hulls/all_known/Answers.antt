-- All are known.
use Rattle.std.proofs.Common.{◌∙◌, sym, ap, subst, List}
use Rattle.std.proofs.lemmas.List.{drop_all}
use Rattle.dom_core.specs.declared.var_id.VarId.{VarId}
use Rattle.dom_definers.specs.Hulls.{AreSmallHulls, all_known}
use Rattle.dom_definers.proofs.HullLaws.{known_small}
use Rattle.dom_definers.proofs.hulls.Hulls.all_known.Goals as goal

pub returns-clause-small : goal.returns-clause-small
returns-clause-small c =
    λ t. known_small c.args.self.now c.args.vars.now (subst AreSmallHulls c.self.view_is c.self.invariant)
    (sym c.loop-var.invariant.left ∙ ap (λ (us : List VarId). all_known c.args.self.now us) (drop_all c.loop-var.var-index c.args.vars.now c.loop-var-test.false))
