use Rattle.dom_core.proofs.EndsLaws.{same_ends, fits_near, near_size}
use Rattle.std.proofs.Common.{rules, ◌≡◌, ◌∙◌, ap, arith, subst, sym, FitsSigned, w64, ◌≤◌, ◌^◌, ℤ, ◌-ℤ◌, to_z, of_z}
use Rattle.std.proofs.lemmas.Int.{ints, to_z-of_z}
use Rattle.std.specs.Int.{w128}
use Rattle.dom_core.specs.Ends.{Ends, only, difference_ends, size_of}
use Rattle.kind_linear.proofs.output.minus.Goals as goal

pub returns-clause-difference : goal.returns-clause-difference
returns-clause-difference c =
    let b : FitsSigned w64 c.args.bound = search rules in
    let h : FitsSigned w128 c.hi.result = search rules in
    let l : FitsSigned w128 c.lo.result = search rules in
    let near = fits_near c.args.bound c.args.sum b c.requires in
    let bound : to_z w128 (of_z w128 (to_z w64 (of_z w64 c.args.bound))) ≡ c.args.bound = omega (arith, ints) in
    let hi : to_z w128 (of_z w128 c.hi.result) ≡ c.args.sum.hi = to_z-of_z w128 c.hi.result h ∙ c.hi.ensures.hi in
    let lo : to_z w128 (of_z w128 c.lo.result) ≡ c.args.sum.lo = to_z-of_z w128 c.lo.result l ∙ c.lo.ensures.lo in
    c.new.ensures ∙ same_ends _ (difference_ends (only c.args.bound) c.args.sum)
    (ap (λ (x : ℤ). to_z w128 (of_z w128 (x -ℤ to_z w128 (of_z w128 c.hi.result)))) bound ∙ ap (λ (x : ℤ). to_z w128 (of_z w128 (c.args.bound -ℤ x))) hi ∙ to_z-of_z w128 (c.args.bound -ℤ c.args.sum.hi) near.0)
    (ap (λ (x : ℤ). to_z w128 (of_z w128 (x -ℤ to_z w128 (of_z w128 c.lo.result)))) bound ∙ ap (λ (x : ℤ). to_z w128 (of_z w128 (c.args.bound -ℤ x))) lo ∙ to_z-of_z w128 (c.args.bound -ℤ c.args.sum.lo) near.1)

pub returns-clause-bits : goal.returns-clause-bits
returns-clause-bits c =
    let b : FitsSigned w64 c.args.bound = search rules in
    subst (λ (e : Ends). size_of e ≤ 2 ^ 102) (sym (returns-clause-difference c)) (near_size c.args.bound c.args.sum b c.requires)
