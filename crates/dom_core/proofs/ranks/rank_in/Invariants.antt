use Rattle.std.proofs.Common.{◌-◌}
use Rattle.dom_core.proofs.RankLaws.{Between}
use Rattle.dom_core.proofs.ranks.rank_in.Given as goal

abbrev pub invariant-loop-low : goal.invariant-loop-low
invariant-loop-low l = Between l.values l.fn.value l.low l.high

abbrev pub decreases-loop-low : goal.decreases-loop-low
decreases-loop-low l = l.high - l.low
