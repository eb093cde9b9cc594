-- One variable more.
use Rattle.std.proofs.Common.{rules, FitsSigned, w64, ◌∙◌, ◌≡◌, sym, ap, ℤ, arith, to_z, of_z}
use Rattle.std.proofs.lemmas.Int.{ints}
use Rattle.std.specs.Int.{w128}
use Rattle.dom_core.specs.Ends.{lies_in}
use Rattle.dom_network.proofs.TestLaws.{inside_next}
use Rattle.dom_network.proofs.tests.is_inside.Goals as goal

pub loop-number-preserved : goal.loop-number-preserved
loop-number-preserved c =
    let fits : FitsSigned w64 c.value.result = search rules in
    let same : to_z w128 (of_z w128 (to_z w64 (of_z w64 c.value.result))) ≡ c.value.result = omega (arith, ints) in
    record {
      inside = inside_next c.args.network.now.hulls c.args.a.now c.loop-number.number c.hull.result c.loop-number.invariant.inside c.hull.ensures.hull
          (ap (λ (x : ℤ). lies_in x c.hull.result) (sym (same ∙ c.value.ensures)) ∙ sym c.has.ensures ∙ c.if-not-has.false);
    }
