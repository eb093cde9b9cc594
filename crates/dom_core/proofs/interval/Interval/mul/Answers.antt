use Rattle.std.proofs.Common.{rules, ◌≡◌, ap, subst, FitsSigned}
use Rattle.std.proofs.lemmas.Int.{to_z-of_z}
use Rattle.std.specs.Int.{w128}
use Rattle.dom_core.specs.Ends.{Ends, IsOrdered, scaled_ends}
use Rattle.dom_core.proofs.ProductLaws.{in_high, multiples_fit, products_hull}
use Rattle.dom_core.proofs.interval.Interval.mul.Goals as goal

high_fits : (c : goal.After-struct_told-2-1)
    → FitsSigned w128 (scaled_ends c.self.inside.hi c.args.other).lo × FitsSigned w128 (scaled_ends c.self.inside.hi c.args.other).hi
high_fits c =
    let hi : c.self.inside.hi ≡ c.args.self.hi = ap (λ (e : Ends). e.hi) c.self.view_is in
    let first : IsOrdered c.args.self = subst IsOrdered c.self.view_is c.self.invariant in
    let second : IsOrdered c.args.other = subst IsOrdered c.other.view_is c.other.invariant in
    rw hi (multiples_fit c.args.self c.args.other c.args.self.hi second c.requires (in_high c.args.self first))

pub scale-at_high-requires-clause-low : goal.scale-at_high-requires-clause-low
scale-at_high-requires-clause-low c =
    let fits : FitsSigned w128 c.self.inside.hi = search rules in
    rw (to_z-of_z w128 c.self.inside.hi fits) (high_fits c).0

pub scale-at_high-requires-clause-high : goal.scale-at_high-requires-clause-high
scale-at_high-requires-clause-high c =
    let fits : FitsSigned w128 c.self.inside.hi = search rules in
    rw (to_z-of_z w128 c.self.inside.hi fits) (high_fits c).1

pub returns : goal.returns
returns c =
    let lo_fits : FitsSigned w128 c.self.inside.lo = search rules in
    let hi_fits : FitsSigned w128 c.self.inside.hi = search rules in
    let lo : c.self.inside.lo ≡ c.args.self.lo = ap (λ (e : Ends). e.lo) c.self.view_is in
    let hi : c.self.inside.hi ≡ c.args.self.hi = ap (λ (e : Ends). e.hi) c.self.view_is in
    let first : IsOrdered c.args.self = subst IsOrdered c.self.view_is c.self.invariant in
    let second : IsOrdered c.args.other = subst IsOrdered c.other.view_is c.other.invariant in
    let at_low : c.scale-at_low.result ≡ scaled_ends c.args.self.lo c.args.other = rw (to_z-of_z w128 c.self.inside.lo lo_fits, lo) at c.scale-at_low.ensures in
    let at_high : c.scale-at_high.result ≡ scaled_ends c.args.self.hi c.args.other = rw (to_z-of_z w128 c.self.inside.hi hi_fits, hi) at c.scale-at_high.ensures in
    rw (c.hull.ensures, at_low, at_high) (products_hull c.args.self c.args.other first second)
