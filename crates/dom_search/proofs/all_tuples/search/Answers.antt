-- Each turn tries one tuple more, and at the end every tuple was tried.
use Rattle.std.proofs.Common.{◌≡◌, ◌∙◌, arith, length, rules, ap}
use Rattle.dom_network.specs.Free.{tuple_count_of}
use Rattle.dom_search.proofs.Counts.{count_within_width}
use Rattle.dom_search.proofs.Places.{tuple_written}
use Rattle.dom_search.proofs.Progress.{one_more, is_least, is_none}
use Rattle.dom_search.proofs.Tuples.{tuple-length, tuple_at_is}
use Rattle.dom_search.proofs.all_tuples.search.Goals as goal

pub complete-requires-clause-values : goal.complete-requires-clause-values
complete-requires-clause-values c =
    let ds = c.args.model.now.network.domains in
    let as_long : length c.loop-number.values.items ≡ c.loop-number.values.len = search rules in
    rw (c.deref.ensures.value, tuple_written ds c.loop-number.number _ _ _ c.set_tuple.ensures c.loop-number.invariant.values_whole as_long)
    (tuple_at_is ds c.loop-number.number (rw c.tuple_count-count.ensures at c.loop-number-test.true))

pub loop-number-preserved : goal.loop-number-preserved
loop-number-preserved c =
    let ds = c.args.model.now.network.domains in
    let as_long : length c.loop-number.values.items ≡ c.loop-number.values.len = search rules in
    let written = tuple_written ds c.loop-number.number _ _ _ c.set_tuple.ensures c.loop-number.invariant.values_whole as_long in
    record {
      so_far =
          one_more c.args.model.now c.loop-number.number c.complete.new.out c.loop-number.found c.loop-number.best c.improve-found.result c.improve-found.new.best
          c.one_completion.ensures (rw (c.deref.ensures.value, written) at c.complete.ensures.completion) c.loop-number.invariant.so_far c.improve-found.ensures.best;
      inside = c.improve-found.ensures.hulls;
      best_whole = c.improve-found.ensures.whole ∙ c.loop-number.invariant.best_whole;
      candidate_whole = c.complete.ensures.completion.whole ∙ c.vars.ensures.whole;
      values_whole = ap length written ∙ tuple-length ds c.loop-number.number;
    }

pub returns-then-found : goal.returns-then-found
returns-then-found c =
    let end : c.loop-number.number ≡ tuple_count_of c.args.model.now.network.domains =
    omega (arith, c.loop-number-test.false, c.loop-number.auto.number-end, c.tuple_count-count.ensures) in (
      is_least c.args.model.now c.loop-number.best c.feasible_is_completed.ensures (rw (end, c.if-found.true) at c.loop-number.invariant.so_far),
      record { counted = c.tuple_count-count.ensures; within = rw c.tuple_count-count.ensures (count_within_width c.args.model.now) },
    )

pub returns : goal.returns
returns c =
    let end : c.loop-number.number ≡ tuple_count_of c.args.model.now.network.domains =
    omega (arith, c.loop-number-test.false, c.loop-number.auto.number-end, c.tuple_count-count.ensures) in (
      is_none c.args.model.now c.loop-number.best c.feasible_is_completed.ensures (rw (end, c.if-found.false) at c.loop-number.invariant.so_far),
      record { counted = c.tuple_count-count.ensures; within = rw c.tuple_count-count.ensures (count_within_width c.args.model.now) },
    )
