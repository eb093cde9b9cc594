use Rattle.std.proofs.Common.{◌<◌, length, arith}
use Rattle.std.proofs.lemmas.Option.{slice_get-get_or}
use Rattle.fzn_forms.proofs.InStep.{one_length, one_more, one_without}
use Rattle.fzn_forms.proofs.typed.read_all.Goals as goal

pub returns-then-wanted-expressions : goal.returns-then-wanted-expressions
returns-then-wanted-expressions c = λ args h. absurd (c.if-wanted-expressions.true (one_length c.args.values.now c.args.wanted.now c.args.expressions.now args h))

pub returns-in-None : goal.returns-in-None
returns-in-None c =
    let among : c.loop-place.place < length c.args.wanted.now = omega (arith, c.loop-place-test.true, c.loop-place.invariant.same) in
    one_without c.args.values.now c.args.wanted.now c.args.expressions.now c.loop-place.place _ c.index-expressions-place.result c.loop-place-test.true
    (slice_get-get_or c.args.wanted.now c.loop-place.place _ among) c.index-expressions-place.is (rw c.in-None.is at c.in_ok-read.ensures)

pub loop-place-preserved : goal.loop-place-preserved
loop-place-preserved c =
    let among : c.loop-place.place < length c.args.wanted.now = omega (arith, c.loop-place-test.true, c.loop-place.invariant.same) in
    record {
      same = c.loop-place.invariant.same;
      read = rw c.in_ok-push-in-Some.ensures.items
          (one_more c.args.values.now c.args.wanted.now c.args.expressions.now c.loop-place.place _ c.index-expressions-place.result c.loop-place-test.true
          (slice_get-get_or c.args.wanted.now c.loop-place.place _ among) c.index-expressions-place.is c.loop-place.arguments.items c.in-Some.argument c.loop-place.invariant.read
          (rw c.in-Some.is at c.in_ok-read.ensures));
    }
