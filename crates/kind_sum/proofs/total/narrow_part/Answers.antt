use Rattle.std.proofs.Common.{rules, ◌≡◌, ◌∙◌, ◌≤ℤ◌, ◌<ℤ◌, ◌*ℤ◌, ℤ, pos, ap, arith, FitsSigned, w64, to_z, of_z}
use Rattle.std.proofs.lemmas.Int.{ints, to_z-of_z}
use Rattle.std.specs.Int.{w128}
use Rattle.dom_core.proofs.ProductLaws.{times_down, times_up}
use Rattle.kind_sum.proofs.total.narrow_part.Goals as goal

pub new-requires : goal.new-requires
new-requires c =
    let f : FitsSigned w128 c.product-at_low.result = search rules in
    let g : FitsSigned w128 c.product-at_high.result = search rules in
    let coef : to_z w64 (of_z w64 c.args.coef) ≡ c.args.coef = to_z-of_z w64 c.args.coef c.ranges.coef in
    let low : to_z w128 (of_z w128 c.product-at_low.result) ≡ (c.args.coef *ℤ c.args.lo) = to_z-of_z w128 c.product-at_low.result f ∙ c.product-at_low.ensures
    ∙ ap (λ (k : ℤ). k *ℤ to_z w64 (of_z w64 c.args.lo)) coef ∙ ap (λ (x : ℤ). c.args.coef *ℤ x) (to_z-of_z w64 c.args.lo c.ranges.lo) in
    let high : to_z w128 (of_z w128 c.product-at_high.result) ≡ (c.args.coef *ℤ c.args.hi) = to_z-of_z w128 c.product-at_high.result g ∙ c.product-at_high.ensures
    ∙ ap (λ (k : ℤ). k *ℤ to_z w64 (of_z w64 c.args.hi)) coef ∙ ap (λ (x : ℤ). c.args.coef *ℤ x) (to_z-of_z w64 c.args.hi c.ranges.hi) in
    let below : c.args.coef <ℤ pos 0 = search (rules, arith) in
    let order : (c.args.coef *ℤ c.args.hi) ≤ℤ (c.args.coef *ℤ c.args.lo) = times_down c.args.coef c.args.lo c.args.hi below c.requires in
    omega (arith, ints)

pub new-requires-2 : goal.new-requires-2
new-requires-2 c =
    let f : FitsSigned w128 c.product-at_low.result = search rules in
    let g : FitsSigned w128 c.product-at_high.result = search rules in
    let coef : to_z w64 (of_z w64 c.args.coef) ≡ c.args.coef = to_z-of_z w64 c.args.coef c.ranges.coef in
    let low : to_z w128 (of_z w128 c.product-at_low.result) ≡ (c.args.coef *ℤ c.args.lo) = to_z-of_z w128 c.product-at_low.result f ∙ c.product-at_low.ensures
    ∙ ap (λ (k : ℤ). k *ℤ to_z w64 (of_z w64 c.args.lo)) coef ∙ ap (λ (x : ℤ). c.args.coef *ℤ x) (to_z-of_z w64 c.args.lo c.ranges.lo) in
    let high : to_z w128 (of_z w128 c.product-at_high.result) ≡ (c.args.coef *ℤ c.args.hi) = to_z-of_z w128 c.product-at_high.result g ∙ c.product-at_high.ensures
    ∙ ap (λ (k : ℤ). k *ℤ to_z w64 (of_z w64 c.args.hi)) coef ∙ ap (λ (x : ℤ). c.args.coef *ℤ x) (to_z-of_z w64 c.args.hi c.ranges.hi) in
    let least : pos 0 ≤ℤ c.args.coef = search (rules, arith) in
    let order : (c.args.coef *ℤ c.args.lo) ≤ℤ (c.args.coef *ℤ c.args.hi) = times_up c.args.coef c.args.lo c.args.hi least c.requires in
    omega (arith, ints)
