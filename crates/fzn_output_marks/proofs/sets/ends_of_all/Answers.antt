use Rattle.std.proofs.Common.{◌≡◌, ◌<◌, ◌≤◌, List, length, subst, sym, ap, ◌∙◌, arith}
use Rattle.std.proofs.lemmas.List.{map-id}
use Rattle.std.proofs.lemmas.Iterator.Adapters.{YieldsList-from_vec}
use Rattle.std.proofs.lemmas.Iterator.Consumers.{YieldsList-turn, YieldsList-end}
use Rattle.fzn_output_marks.specs.declared.literal.SetLiteral.{SetLiteral}
use Rattle.fzn_output_marks.specs.Sets.{CountAs}
use Rattle.fzn_output_marks.proofs.SetLaws.{too_many, count_push, count_length, none_counts}
use Rattle.fzn_output_marks.proofs.sets.ends_of_all.Goals as goal

pub returns-then-len-gt-MOST : goal.returns-then-len-gt-MOST
returns-then-len-gt-MOST c =
    let many : 6 < length c.args.literals = omega (arith, c.len.ensures) in
    too_many c.args.literals many

pub loop-literal-preserved : goal.loop-literal-preserved
loop-literal-preserved c =
    rw c.in_ok-push-in-Some-ends_of.ensures.items
    (count_push c.loop-literal.yielded c.loop-literal.sets.items c.in-Some.literal c.in-Some-ends_of.ends c.loop-literal.invariant c.in-Some-ends_of.ensures)

pub returns-in-None-ends_of : goal.returns-in-None-ends_of
returns-in-None-ends_of c =
    let gives = c.into_iter-literal-iterator.ensures.into_iter_gives in
    let road = YieldsList-from_vec {s = c.into_iter-literal-iterator.result} c.args.literals (gives.0 ∙ c.into_vec-literal-items.ensures) (gives.1 ∙ c.into_vec-literal-items.result.ok.0 ∙ ap length c.into_vec-literal-items.ensures) in
    let turn = YieldsList-turn road c.loop-literal.yielded c.loop-literal.literal-iterator c.loop-literal.yielded_by c.next.result c.next.new.self c.in-Some.literal c.in-Some.is c.next.ensures.steps in
    none_counts c.args.literals (length c.loop-literal.yielded) c.in-Some.literal turn.0 turn.1 c.in-None-ends_of.ensures

pub returns : goal.returns
returns c =
    let gives = c.into_iter-literal-iterator.ensures.into_iter_gives in
    let road = YieldsList-from_vec {s = c.into_iter-literal-iterator.result} c.args.literals (gives.0 ∙ c.into_vec-literal-items.ensures) (gives.1 ∙ c.into_vec-literal-items.result.ok.0 ∙ ap length c.into_vec-literal-items.ensures) in
    let end = YieldsList-end road c.loop-literal.yielded c.loop-literal.literal-iterator c.loop-literal.yielded_by c.next.result c.next.new.self c.in-None.is c.next.ensures.steps in
    let all : c.loop-literal.yielded ≡ c.args.literals = sym (map-id c.loop-literal.yielded) ∙ end.0 in
    let counted = subst (λ (ls : List SetLiteral). CountAs ls c.loop-literal.sets.items) all c.loop-literal.invariant in
    let few : length c.loop-literal.sets.items ≤ 6 = omega (arith, count_length c.args.literals c.loop-literal.sets.items counted, c.len.ensures, c.if-len-gt-MOST.false) in
    rw c.from_vec.ensures (counted, few)
