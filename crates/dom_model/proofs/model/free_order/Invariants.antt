-- What is left compares as all do.
use Rattle.std.proofs.Common.{◌≡◌, drop, length, map}
use Rattle.std.specs.Cmp.Lexicographic.{slice_cmp}
use Rattle.std.specs.Ordering.{int_cmp}
use Rattle.dom_core.specs.Assignment.{value_at}
use Rattle.kind_law.specs.Laws.{AllBelow}
use Rattle.dom_model.proofs.model.free_order.Given as goal

abbrev pub invariant-loop-var : goal.invariant-loop-var
invariant-loop-var l = record {
  left : slice_cmp int_cmp (map (value_at l.first) (drop l.var-index l.free)) (map (value_at l.second) (drop l.var-index l.free))
      ≡ slice_cmp int_cmp (map (value_at l.first) l.free) (map (value_at l.second) l.free);
  first : AllBelow (length l.first) (drop l.var-index l.free);
  second : AllBelow (length l.second) (drop l.var-index l.free);
}
