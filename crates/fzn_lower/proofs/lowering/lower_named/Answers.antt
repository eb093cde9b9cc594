use Rattle.fzn_lower.proofs.Chained.{lowers_second}
use Rattle.fzn_lower.specs.Steps.{FindsDeclaration, FindsConstraintOn}
use Rattle.fzn_lower.proofs.lowering.lower_named.Goals as goal

pub returns : goal.returns
returns c =
    let t = c.args.items.now in
    lowers_second (FindsDeclaration t) (FindsConstraintOn t) t c.lower_typed.result c.in_ok-check_declarations.ensures c.lower_typed.ensures
