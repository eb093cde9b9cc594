use Rattle.std.proofs.Common.{rules, ◌*◌, ◌<◌}
use Rattle.kind_sum.proofs.ReachLaws.{steps_fit}
use Rattle.kind_sum.proofs.reach.steps_within.Goals as goal

pub returns : goal.returns
returns c =
    let more : c.args.room < c.args.pull.size * c.args.pull.steps = search rules in
    steps_fit c.args.room c.args.pull.size c.args.pull.steps more
