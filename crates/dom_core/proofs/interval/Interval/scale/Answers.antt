use Rattle.std.proofs.Common.{rules, ◌≡◌, ap, ◌≤ℤ◌, ◌*ℤ◌, pos, arith, FitsSigned, ◌<ℤ◌, true, false}
use Rattle.std.proofs.lemmas.Int.{ints, to_z-of_z}
use Rattle.std.proofs.Common.{int_lt}
use Rattle.std.specs.Int.{w128}
use Rattle.dom_core.specs.Ends.{Ends}
use Rattle.dom_core.proofs.ProductLaws.{times_up, times_down}
use Rattle.dom_core.proofs.interval.Interval.scale.Goals as goal

pub invariant_of-t-4 : goal.invariant_of-t-4
invariant_of-t-4 c =
    let test : int_lt c.args.factor (pos 0) ≡ true = rw (to_z-of_z w128 c.args.factor c.ranges.factor) at c.if-factor-lt0.true in
    let negative : c.args.factor <ℤ pos 0 = omega (arith, ints) in
    let a : c.self.inside.lo ≡ c.args.self.lo = ap (λ (e : Ends). e.lo) c.self.view_is in
    let b : c.self.inside.hi ≡ c.args.self.hi = ap (λ (e : Ends). e.hi) c.self.view_is in
    let af : FitsSigned w128 c.self.inside.lo = search rules in
    let bf : FitsSigned w128 c.self.inside.hi = search rules in
    let low : FitsSigned w128 (c.args.factor *ℤ c.self.inside.hi) = rw b (rw test at c.requires.low) in
    let high : FitsSigned w128 (c.args.factor *ℤ c.self.inside.lo) = rw a (rw test at c.requires.high) in
    rw (
      to_z-of_z w128 c.args.factor c.ranges.factor,
      to_z-of_z w128 c.self.inside.lo af,
      to_z-of_z w128 c.self.inside.hi bf,
      to_z-of_z w128 (c.args.factor *ℤ c.self.inside.hi) low,
      to_z-of_z w128 (c.args.factor *ℤ c.self.inside.lo) high,
    )
    (times_down c.args.factor c.self.inside.lo c.self.inside.hi negative c.self.invariant)

pub invariant_of-result : goal.invariant_of-result
invariant_of-result c =
    let test : int_lt c.args.factor (pos 0) ≡ false = rw (to_z-of_z w128 c.args.factor c.ranges.factor) at c.if-factor-lt0.false in
    let positive : pos 0 ≤ℤ c.args.factor = omega (arith, ints) in
    let a : c.self.inside.lo ≡ c.args.self.lo = ap (λ (e : Ends). e.lo) c.self.view_is in
    let b : c.self.inside.hi ≡ c.args.self.hi = ap (λ (e : Ends). e.hi) c.self.view_is in
    let af : FitsSigned w128 c.self.inside.lo = search rules in
    let bf : FitsSigned w128 c.self.inside.hi = search rules in
    let low : FitsSigned w128 (c.args.factor *ℤ c.self.inside.lo) = rw a (rw test at c.requires.low) in
    let high : FitsSigned w128 (c.args.factor *ℤ c.self.inside.hi) = rw b (rw test at c.requires.high) in
    rw (
      to_z-of_z w128 c.args.factor c.ranges.factor,
      to_z-of_z w128 c.self.inside.lo af,
      to_z-of_z w128 c.self.inside.hi bf,
      to_z-of_z w128 (c.args.factor *ℤ c.self.inside.lo) low,
      to_z-of_z w128 (c.args.factor *ℤ c.self.inside.hi) high,
    )
    (times_up c.args.factor c.self.inside.lo c.self.inside.hi positive c.self.invariant)
