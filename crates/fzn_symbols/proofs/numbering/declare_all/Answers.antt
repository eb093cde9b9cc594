use Rattle.fzn_symbols.specs.Marks.{marks_of}
use Rattle.fzn_symbols.proofs.Counting.{counted_more}
use Rattle.fzn_symbols.proofs.Marked.{marked}
use Rattle.fzn_symbols.proofs.numbering.declare_all.Goals as goal

pub loop-place-preserved : goal.loop-place-preserved
loop-place-preserved c =
    rw c.earlier-double.ensures
    (counted_more (marks_of c.args.occurrences.now) c.loop-place.place _ c.loop-place.names c.note.new.names c.loop-place.double c.in_ok-again.again
    (marked c.args.occurrences.now c.loop-place.place _ c.loop-place-test.true) c.loop-place.invariant c.in_ok-again.ensures)
