use Rattle.fzn_lower.proofs.Chained.{lowers_second}
use Rattle.fzn_lower.specs.Steps.{FindsSize, FindsNameOn}
use Rattle.fzn_lower.proofs.lowering.lower.Goals as goal

pub returns : goal.returns
returns c =
    let t = c.args.items.now in
    lowers_second (FindsSize t) (FindsNameOn t) t c.lower_sized.result c.in_ok-check_sizes.ensures c.lower_sized.ensures
