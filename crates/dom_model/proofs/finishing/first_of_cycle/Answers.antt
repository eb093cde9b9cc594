-- All nodes are asked for.
use Rattle.std.proofs.Common.{◌∙◌}
use Rattle.dom_model.proofs.CycleLaws.{one_on_cycle}
use Rattle.dom_model.proofs.finishing.first_of_cycle.Goals as goal

pub unreachable-requires : goal.unreachable-requires
unreachable-requires c =
    one_on_cycle c.args.graph.now c.len.result c.as_slice.result.now c.requires.cycle c.len.ensures (c.as_slice.ensures.value ∙ c.in-Ok.ensures) (rw c.in-Ok-None.field-0-is at c.in-Ok-None.ensures)
