-- The literals so far count as these sets.
use Rattle.fzn_output_marks.specs.Sets.{CountAs}
use Rattle.fzn_output_marks.proofs.sets.ends_of_all.Given as goal

abbrev pub invariant-loop-literal : goal.invariant-loop-literal
invariant-loop-literal l = CountAs l.yielded l.sets.items
