use Rattle.std.proofs.Common.{sym, ◌∙◌}
use Rattle.fzn_limits.proofs.Named.{none_named, one_named}
use Rattle.fzn_limits.proofs.entries.named_entries.Goals as goal

pub returns-in-None : goal.returns-in-None
returns-in-None c = sym (none_named c.args.scope.now c.args.name.now c.in-None.ensures)

pub returns-in-Some : goal.returns-in-Some
returns-in-Some c =
    c.declared_entries.ensures ∙ sym (one_named c.args.scope.now c.args.name.now c.in-Some.declaration.now c.declarations.ensures.different c.in-Some.ensures)
