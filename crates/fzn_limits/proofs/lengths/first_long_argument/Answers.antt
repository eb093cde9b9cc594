use Rattle.std.proofs.Common.{nat_lt, sym, ◌∙◌}
use Rattle.fzn_limits.specs.Sizes.{limit, lengths_of_expression}
use Rattle.fzn_limits.proofs.Firsts.{none_more, found_first}
use Rattle.fzn_limits.proofs.lengths.first_long_argument.Goals as goal

pub returns-in-Some : goal.returns-in-Some
returns-in-Some c =
    sym (found_first (λ n. nat_lt limit n) lengths_of_expression c.args.arguments.now c.loop-argument.argument-index _ c.argument-item.result c.in-Some.length
    c.loop-argument-test.true c.argument-item.is c.loop-argument.invariant (sym c.long_list.ensures ∙ c.in-Some.is))

pub loop-argument-preserved : goal.loop-argument-preserved
loop-argument-preserved c =
    none_more (λ n. nat_lt limit n) lengths_of_expression c.args.arguments.now c.loop-argument.argument-index _ c.argument-item.result
    c.loop-argument-test.true c.argument-item.is c.loop-argument.invariant (sym c.long_list.ensures ∙ c.in_default.is)
