use Rattle.std.proofs.Common.{◌≡◌, arith, get_or}
use Rattle.dom_cells.proofs.StackLaws.{all-cut-more, starts-more, stack-new}
use Rattle.dom_cells.proofs.cells.Cells.new.Goals as goal

pub loop-start-preserved : goal.loop-start-preserved
loop-start-preserved c =
    let copy : c.in_ok-copy.copy ≡ c.start-item.result = c.in_ok-copy.ensures in
    let read : c.in_ok-copy.copy ≡ get_or c.args.starts.now c.loop-start.start-index c.in_ok-copy.copy = rw (← copy) at c.start-item.is in
    rw c.in_ok-push.ensures.items (record {
      starts = starts-more c.loop-start.cells.items c.args.starts.now c.in_ok-whole.field-0 c.in_ok-copy.copy c.loop-start.start-index
          c.loop-start.invariant.starts (omega arith) read c.in_ok-whole.ensures.whole.start;
      cut = all-cut-more c.loop-start.cells.items c.in_ok-whole.field-0 c.in_ok-copy.copy c.loop-start.invariant.cut c.in_ok-whole.ensures.sane c.in_ok-whole.ensures.whole;
    })

pub invariant_of-result : goal.invariant_of-result
invariant_of-result c = rw c.new.ensures.items (stack-new c.loop-start.cells.items c.loop-start.invariant.cut)
