use Rattle.std.proofs.Common.{◌≡◌, nat_lt, List, None, Some, sym, ◌∙◌, ap}
use Rattle.std.specs.List.{flat_map}
use Rattle.fzn_limits.specs.Sizes.{limit, lengths_of_declaration, lengths_of_constraint, first_above}
use Rattle.fzn_limits.proofs.Firsts.{found_left, found_right}
use Rattle.fzn_syntax.specs.declared.constraint.Constraint.{Constraint}
use Rattle.fzn_syntax.specs.declared.declaration.Declaration.{Declaration}
use Rattle.fzn_limits.proofs.lengths.first_long_list.Goals as goal

pub returns-in-Some : goal.returns-in-Some
returns-in-Some c =
    let front = flat_map lengths_of_declaration c.args.items.now.declarations in
    let rest = flat_map lengths_of_constraint c.args.items.now.constraints in
    let found : first_above front ≡ Some c.in-Some.length =
    ap (λ (ds : List Declaration). first_above (flat_map lengths_of_declaration ds)) (sym c.as_slice.ensures) ∙ sym c.first_long_declaration.ensures ∙ c.in-Some.is in
    sym (found_left (λ n. nat_lt limit n) front rest c.in-Some.length found)

pub returns-in-None : goal.returns-in-None
returns-in-None c =
    let front = flat_map lengths_of_declaration c.args.items.now.declarations in
    let rest = flat_map lengths_of_constraint c.args.items.now.constraints in
    let none : first_above front ≡ None =
    ap (λ (ds : List Declaration). first_above (flat_map lengths_of_declaration ds)) (sym c.as_slice.ensures) ∙ sym c.first_long_declaration.ensures ∙ c.in-None.is in
    let found = c.first_long_constraint.ensures ∙ ap (λ (cs : List Constraint). first_above (flat_map lengths_of_constraint cs)) c.as_slice-in-None.ensures in
    found ∙ sym (found_right (λ n. nat_lt limit n) front rest none)
