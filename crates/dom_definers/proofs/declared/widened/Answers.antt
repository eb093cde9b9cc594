-- One value more.
use Rattle.std.proofs.Common.{◌≡◌, ◌∙◌, ◌+◌, ap, sym, rules, drop, get_or, List, ℤ, pos, FitsSigned}
use Rattle.std.specs.Int.{w64}
use Rattle.std.proofs.lemmas.Int.{to_z-of_z}
use Rattle.std.proofs.lemmas.List.{drop_more}
use Rattle.dom_core.specs.Ends.{Ends, only, hull_ends}
use Rattle.dom_definers.specs.Variable.{widened}
use Rattle.dom_definers.proofs.declared.widened.Goals as goal

pub loop-value-preserved : goal.loop-value-preserved
loop-value-preserved c =
    let x = get_or c.args.rest.now c.loop-value.value-index (pos 0) in
    let small : FitsSigned w64 (get_or c.args.rest.now c.loop-value.value-index (pos 0)) = search rules in
    let here : c.hull-hull.result ≡ hull_ends c.loop-value.hull (only x) =
    c.hull-hull.ensures ∙ ap (λ (e : Ends). hull_ends c.loop-value.hull e) (c.single.ensures ∙ ap (λ (z : ℤ). only z) (to_z-of_z w64 x small)) in
    record {
      hull =
          ap (λ (e : Ends). widened e (drop (c.loop-value.value-index + 1) c.args.rest.now)) here
          ∙ sym (ap (λ (xs : List ℤ). widened c.loop-value.hull xs) (drop_more c.args.rest.now c.loop-value.value-index (pos 0) c.loop-value-test.true))
          ∙ c.loop-value.invariant.hull;
    }
