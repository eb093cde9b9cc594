use Rattle.std.proofs.Common.{◌∙◌, ap, length}
use Rattle.fzn_model.proofs.Equating.{flags_counted}
use Rattle.fzn_model.specs.Posting.{initialised}
use Rattle.fzn_model.proofs.tests.defined_by.Goals as goal

pub defines-requires-clause-whole : goal.defines-requires-clause-whole
defines-requires-clause-whole c =
    ap length (c.as_slice-3.ensures.value ∙ c.in_ok-flags.ensures ∙ ap initialised c.declarations-2.ensures.all) ∙ flags_counted c.args.scope.now
