use Rattle.fzn_totality.proofs.Shapes.{has_kind}
use Rattle.fzn_totality.proofs.law.posted_has_kind.Goals as goal

pub returns : goal.returns
returns c = has_kind
