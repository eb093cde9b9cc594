use Rattle.std.proofs.Common.{◌≡◌, ◌≤ℤ◌, drop}
use Rattle.kind_parts.specs.Set.{covers}
use Rattle.kind_parts.proofs.CoverLaws.{pass}
use Rattle.kind_parts.proofs.sets.is_covered.Given as goal

abbrev pub invariant-loop-value : goal.invariant-loop-value
invariant-loop-value l = record {
  order : l.next ≤ℤ l.last;
  rest : pass (drop l.value-index l.values) l.next l.last ≡ covers l.values l.fn.interval;
}
