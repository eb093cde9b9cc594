use Rattle.fzn_check.proofs.FoundLaws.{found_only}
use Rattle.fzn_check.proofs.lookup.found.Goals as goal

pub returns : goal.returns
returns c = found_only (λ d. d.now) c.args.scope.now c.args.name.now c.declaration.result c.declarations.ensures.different c.declaration.ensures
