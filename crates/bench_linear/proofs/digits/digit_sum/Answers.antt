use Rattle.std.proofs.Common.{rules, ◌≤◌, ◌∙◌, ap, sym, subst, length, List, ℤ, FitsSigned, w64, to_z, of_z, arith}
use Rattle.std.proofs.lemmas.Int.{to_z-of_z}
use Rattle.std.proofs.lemmas.List.{length-append}
use Rattle.std.proofs.lemmas.List.Elements.{All-push}
use Rattle.std.specs.List.{All}
use Rattle.dom_core.specs.declared.arg.Arg.{Arg}
use Rattle.kind_sum.specs.SumRelation.{SumRelation}
use Rattle.bench_linear.specs.Digits.{IsDigitSum}
use Rattle.bench_linear.proofs.DigitLaws.{IsSlight, IsVarBelow, digit_sum_is}
use Rattle.bench_linear.proofs.digits.digit_sum.Goals as goal

pub loop-at-preserved : goal.loop-at-preserved
loop-at-preserved c =
    let fits : FitsSigned w64 c.coefficient.result = search rules in
    record {
      coefs = ap length c.in_ok-push.ensures.items ∙ length-append c.loop-at.coefs.items _ ∙ omega (arith, c.loop-at.invariant.coefs);
      args = ap length c.in_ok-push-2.ensures.items ∙ length-append c.loop-at.args.items _ ∙ omega (arith, c.loop-at.invariant.args);
      slight = subst (λ (cs : List ℤ). All IsSlight cs) (sym c.in_ok-push.ensures.items)
          (All-push IsSlight c.loop-at.coefs.items (to_z w64 (of_z w64 c.coefficient.result)) c.loop-at.invariant.slight
          (subst IsSlight (sym (to_z-of_z w64 c.coefficient.result fits)) c.coefficient.ensures));
      vars = subst (λ (xs : List Arg). All (IsVarBelow c.args.width) xs) (sym c.in_ok-push-2.ensures.items)
          (All-push (IsVarBelow c.args.width) c.loop-at.args.items _ c.loop-at.invariant.vars c.loop-at-test.true);
    }

pub returns : goal.returns
returns c =
    let slight : All IsSlight c.as_slice.result.now = subst (λ (cs : List ℤ). All IsSlight cs) (sym c.as_slice.ensures.value) c.loop-at.invariant.slight in
    let vars : All (IsVarBelow c.args.width) c.as_slice-2.result.now = subst (λ (xs : List Arg). All (IsVarBelow c.args.width) xs) (sym c.as_slice-2.ensures.value) c.loop-at.invariant.vars in
    let few : length c.as_slice.result.now ≤ 1000 = omega (arith, ap length c.as_slice.ensures.value, c.loop-at.invariant.coefs, c.loop-at.auto.at-end, c.requires) in
    subst (λ (k : SumRelation). IsDigitSum c.args.width k) (sym c.in_ok-sum.ensures)
    (digit_sum_is c.args.width c.as_slice.result.now c.as_slice-2.result.now _ _ few slight vars)
