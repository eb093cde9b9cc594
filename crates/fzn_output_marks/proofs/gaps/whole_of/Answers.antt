use Rattle.fzn_output_marks.proofs.GapLaws.{told}
use Rattle.fzn_output_marks.proofs.gaps.whole_of.Goals as goal

pub returns : goal.returns
returns c = told c.args.values.items c.deref.result.now c.whole_of_sorted.result (rw c.deref.ensures.value c.sort_unstable.ensures.permutation) c.whole_of_sorted.ensures
