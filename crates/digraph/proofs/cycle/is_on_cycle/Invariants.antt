use Rattle.std.proofs.Common.{◌-◌}
use Rattle.digraph.proofs.MetLaws.{weight_of}
use Rattle.digraph.proofs.SearchLaws.{IsSearching}
use Rattle.digraph.proofs.cycle.is_on_cycle.Given as goal

abbrev pub invariant-loop-next : goal.invariant-loop-next
invariant-loop-next l = IsSearching l.graph l.node l.search l.done

abbrev pub decreases-loop-next : goal.decreases-loop-next
decreases-loop-next l = weight_of l.search - l.done
