use Rattle.std.proofs.Common.{nat_lt, sym, ◌∙◌, ap}
use Rattle.std.specs.List.{flat_map}
use Rattle.fzn_limits.specs.Sizes.{limit, lengths_of_constraint, lengths_of_expression, first_above}
use Rattle.fzn_limits.proofs.Firsts.{none_more, found_first}
use Rattle.fzn_limits.proofs.lengths.first_long_constraint.Goals as goal

pub returns-in-Some : goal.returns-in-Some
returns-in-Some c =
    sym (found_first (λ n. nat_lt limit n) lengths_of_constraint c.args.constraints.now c.loop-constraint.constraint-index _ c.constraint-item.result c.in-Some.length
    c.loop-constraint-test.true c.constraint-item.is c.loop-constraint.invariant (ap (λ es. first_above (flat_map lengths_of_expression es)) (sym c.as_slice.ensures) ∙ sym c.first_long_argument.ensures ∙ c.in-Some.is))

pub loop-constraint-preserved : goal.loop-constraint-preserved
loop-constraint-preserved c =
    none_more (λ n. nat_lt limit n) lengths_of_constraint c.args.constraints.now c.loop-constraint.constraint-index _ c.constraint-item.result
    c.loop-constraint-test.true c.constraint-item.is c.loop-constraint.invariant (ap (λ es. first_above (flat_map lengths_of_expression es)) (sym c.as_slice.ensures) ∙ sym c.first_long_argument.ensures ∙ c.in_default.is)
