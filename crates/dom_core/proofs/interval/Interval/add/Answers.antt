use Rattle.std.proofs.Common.{rules, ◌≡◌, ap, arith, FitsSigned}
use Rattle.std.proofs.lemmas.Int.{ints}
use Rattle.std.specs.Int.{w128}
use Rattle.dom_core.specs.Ends.{Ends}
use Rattle.dom_core.proofs.interval.Interval.add.Goals as goal

pub invariant_of-result : goal.invariant_of-result
invariant_of-result c =
    let a : c.self.inside.lo ≡ c.args.self.lo = ap (λ (e : Ends). e.lo) c.self.view_is in
    let b : c.self.inside.hi ≡ c.args.self.hi = ap (λ (e : Ends). e.hi) c.self.view_is in
    let d : c.other.inside.lo ≡ c.args.other.lo = ap (λ (e : Ends). e.lo) c.other.view_is in
    let f : c.other.inside.hi ≡ c.args.other.hi = ap (λ (e : Ends). e.hi) c.other.view_is in
    let af : FitsSigned w128 c.self.inside.lo = search rules in
    let bf : FitsSigned w128 c.self.inside.hi = search rules in
    let df : FitsSigned w128 c.other.inside.lo = search rules in
    let ff : FitsSigned w128 c.other.inside.hi = search rules in
    omega (arith, ints)
