use Rattle.fzn_lower.proofs.Chained.{lowers_second}
use Rattle.fzn_lower.specs.Steps.{FindsUnknown, FindsDeclarationOn}
use Rattle.fzn_lower.proofs.lowering.lower_scoped.Goals as goal

pub returns : goal.returns
returns c =
    let t = c.args.items.now in
    lowers_second (FindsUnknown t) (FindsDeclarationOn t) t c.lower_named.result c.in_ok-check_names.ensures c.lower_named.ensures
