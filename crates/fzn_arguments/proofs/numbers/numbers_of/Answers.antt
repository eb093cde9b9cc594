use Rattle.std.proofs.Common.{◌∙◌, ap, length, arith, length-append}
use Rattle.fzn_arguments.specs.Numbers.{number_at}
use Rattle.fzn_arguments.proofs.Numbered.{at_more, number_more, number_bounded}
use Rattle.fzn_arguments.proofs.numbers.numbers_of.Goals as goal

pub overflow_cast-count : goal.overflow_cast-count
overflow_cast-count c = omega (arith, c.loop-declaration.invariant.counted, number_bounded c.args.declarations.now c.loop-declaration.declaration-index, c.requires)

pub overflow_add-count : goal.overflow_add-count
overflow_add-count c =
    omega (arith, c.loop-declaration.invariant.counted, number_bounded c.args.declarations.now c.loop-declaration.declaration-index, c.requires, c.variables_by-count.ensures.few)

pub loop-declaration-preserved : goal.loop-declaration-preserved
loop-declaration-preserved c =
    let ds = c.args.declarations.now in
    let i = c.loop-declaration.declaration-index in
    let so_far = c.loop-declaration.invariant in
    let more = number_more ds i c.declaration-item.result c.loop-declaration-test.true c.declaration-item.is in
    record {
      counted = omega (arith, so_far.counted, c.variables_by-count.ensures.one, more);
      size = ap length c.in_ok-push.ensures.items ∙ length-append c.loop-declaration.numbers.items _ ∙ omega (arith, so_far.size);
      at = rw c.in_ok-push.ensures.items (at_more c.loop-declaration.numbers.items c.loop-declaration.count i (number_at ds) so_far.size so_far.at so_far.counted);
    }
