use Rattle.std.proofs.Common.{rules, ◌≡◌, ◌∙◌, ap, subst, ℤ, pos, negsuc, ◌≤ℤ◌, arith, FitsSigned, w64, to_z, of_z}
use Rattle.std.proofs.lemmas.Int.{ints, to_z-of_z}
use Rattle.std.specs.Int.{w128}
use Rattle.dom_core.specs.Ends.{Ends, scaled_ends}
use Rattle.dom_core.proofs.EndsLaws.{same_ends}
use Rattle.dom_core.proofs.ProductLaws.{lt_false}
use Rattle.kind_sum.proofs.total.part_of.Goals as goal

abbrev between : ℤ → ℤ → Ends
between a b = record { lo = a; hi = b }

-- a number of few bits, cast down, is itself
narrowed : (x y : ℤ) → FitsSigned w128 x → x ≡ y → FitsSigned w64 y → to_z w64 (of_z w64 (to_z w128 (of_z w128 x))) ≡ y
narrowed x y f e g = ap (λ (z : ℤ). to_z w64 (of_z w64 z)) (to_z-of_z w128 x f ∙ e) ∙ to_z-of_z w64 y g

-- numbers between the ends of 64 bits fit them
fits_between : (x : ℤ) → negsuc 9223372036854775807 ≤ℤ x → x ≤ℤ pos 9223372036854775807 → FitsSigned w64 x
fits_between x low high = omega (arith, ints)

pub returns : goal.returns
returns c =
    let f : FitsSigned w128 c.lo-lo.result = search rules in
    let g : FitsSigned w128 c.hi-hi.result = search rules in
    let order : c.args.interval.lo ≤ℤ c.args.interval.hi = c.lo-lo.ensures.ordered in
    let low : negsuc 9223372036854775807 ≤ℤ c.args.interval.lo =
    subst (λ (z : ℤ). negsuc 9223372036854775807 ≤ℤ z) (to_z-of_z w128 c.lo-lo.result f ∙ c.lo-lo.ensures.lo) (lt_false _ _ c.if-lo-least.false) in
    let high : c.args.interval.hi ≤ℤ pos 9223372036854775807 =
    subst (λ (z : ℤ). z ≤ℤ pos 9223372036854775807) (to_z-of_z w128 c.hi-hi.result g ∙ c.hi-hi.ensures.hi) (lt_false _ _ c.if-greatest-hi.false) in
    let lo = narrowed c.lo-lo.result c.args.interval.lo f c.lo-lo.ensures.lo (fits_between c.args.interval.lo low (omega (arith, ints))) in
    let hi = narrowed c.hi-hi.result c.args.interval.hi g c.hi-hi.ensures.hi (fits_between c.args.interval.hi (omega (arith, ints)) high) in
    c.narrow_part.ensures
    ∙ ap (λ (k : ℤ). scaled_ends k (between (to_z w64 (of_z w64 (to_z w128 (of_z w128 c.lo-lo.result)))) (to_z w64 (of_z w64 (to_z w128 (of_z w128 c.hi-hi.result)))))) (to_z-of_z w64 c.args.coef c.ranges.coef)
    ∙ ap (scaled_ends c.args.coef) (same_ends (between (to_z w64 (of_z w64 (to_z w128 (of_z w128 c.lo-lo.result)))) (to_z w64 (of_z w64 (to_z w128 (of_z w128 c.hi-hi.result))))) c.args.interval lo hi)
