-- The variables so far are below the count.
use Rattle.std.proofs.Common.{take}
use Rattle.kind_law.specs.Laws.{AllBelow}
use Rattle.dom_search.proofs.tests.are_below.Given as goal

abbrev pub invariant-loop-var : goal.invariant-loop-var
invariant-loop-var l = record { below : AllBelow l.count (take l.var-index l.vars) }
