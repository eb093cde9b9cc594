-- What is measured.
use Rattle.std.proofs.Common.{◌≡◌, true, List, length, sym, subst, ◌∙◌}
use Rattle.any_kind.specs.Any.{any_measured}
use Rattle.dom_core.specs.declared.var_id.VarId.{VarId}
use Rattle.dom_definers.specs.Width.{others_known}
use Rattle.kind_law.proofs.EachLaws.{each_all}
use Rattle.dom_definers.proofs.WidthLaws.{measured_below, measured_small}
use Rattle.dom_definers.proofs.width.is_too_wide.Goals as goal

pub is_too_wide-requires-clause-below : goal.is_too_wide-requires-clause-below
is_too_wide-requires-clause-below c = measured_below (length c.args.hulls.now) c.args.kind.now c.requires.fit.below

pub is_too_wide-requires-clause-ready : goal.is_too_wide-requires-clause-ready
is_too_wide-requires-clause-ready c = each_all (λ u. Unit {0}) (any_measured c.args.kind.now) (λ u. tt)

pub is_too_wide-requires-clause-small : goal.is_too_wide-requires-clause-small
is_too_wide-requires-clause-small c =
    measured_small c.args.hulls.now c.args.defined c.args.kind.now c.requires.fit.gives c.len-count.ensures.small
    (subst (λ (us : List VarId). others_known c.args.hulls.now c.args.defined us ≡ true) c.vars.ensures (sym c.others_known.ensures ∙ c.if-not-others_known.false))
