-- The restrictions so far, with those of the variables that are left behind them, are all.
use Rattle.dom_domains.proofs.AddLaws.{IsAdded}
use Rattle.dom_domains.proofs.restrict.restrictions_of.Given as goal

abbrev pub invariant-loop-number : goal.invariant-loop-number
invariant-loop-number l = record { added : IsAdded l.variables l.definers l.number l.initial.constraints.items l.constraints.items }
