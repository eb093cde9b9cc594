use Rattle.std.proofs.Common.{sym, ◌∙◌}
use Rattle.fzn_values.proofs.Told.{leads_nowhere}
use Rattle.fzn_values.proofs.link.link_of_value.Goals as goal

pub returns-in-None-place : goal.returns-in-None-place
returns-in-None-place c =
    leads_nowhere c.args.scope.now c.args.literal c.args.value.now c.in-Some.name.now (sym c.is_literal.ensures ∙ c.if-is_literal.false) c.in-Some.ensures c.in-None-place.ensures
