use Rattle.std.proofs.Common.{nat_lt, sym, ◌∙◌}
use Rattle.fzn_limits.specs.Sizes.{limit, lengths_of_declaration}
use Rattle.fzn_limits.proofs.Firsts.{none_more, found_first}
use Rattle.fzn_limits.proofs.lengths.first_long_declaration.Goals as goal

pub returns-in-Some : goal.returns-in-Some
returns-in-Some c =
    sym (found_first (λ n. nat_lt limit n) lengths_of_declaration c.args.declarations.now c.loop-declaration.declaration-index _ c.declaration-item.result c.in-Some.length
    c.loop-declaration-test.true c.declaration-item.is c.loop-declaration.invariant (sym c.long_declaration.ensures ∙ c.in-Some.is))

pub loop-declaration-preserved : goal.loop-declaration-preserved
loop-declaration-preserved c =
    none_more (λ n. nat_lt limit n) lengths_of_declaration c.args.declarations.now c.loop-declaration.declaration-index _ c.declaration-item.result
    c.loop-declaration-test.true c.declaration-item.is c.loop-declaration.invariant (sym c.long_declaration.ensures ∙ c.in_default.is)
