use Rattle.std.proofs.Common.{rules, ◌≡◌, true, false}
use Rattle.kind_sum.specs.Reach.{pulled_ends}
use Rattle.kind_parts.specs.Relation.{is_only_value}
use Rattle.kind_sum.proofs.ReachLaws.{last_step, no_step}
use Rattle.kind_sum.proofs.reach.gap_reach.Goals as goal

pub returns-then-is_only : goal.returns-then-is_only
returns-then-is_only c =
    let only : is_only_value (pulled_ends c.args.pull c.args.total c.args.pull.steps) c.args.bound ≡ true = search rules in
    last_step c.args.total c.args.bound c.args.pull c.requires.quiet only

pub returns : goal.returns
returns c =
    let only : is_only_value (pulled_ends c.args.pull c.args.total c.args.pull.steps) c.args.bound ≡ false = search rules in
    no_step c.args.total c.args.bound c.args.pull c.requires.order only
