use Rattle.dom_core.proofs.SortLaws.{answer_of_sorted}
use Rattle.dom_core.proofs.domain.Domain.from_values.Goals as goal

pub returns : goal.returns
returns c = answer_of_sorted c.args.values.now c.in_ok-sorted.sorted.items c.from_sorted.result c.in_ok-sorted.ensures c.from_sorted.ensures
