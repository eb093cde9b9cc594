-- The kinds so far are those of the constraints so far.
use Rattle.std.proofs.Common.{◌≡◌, map}
use Rattle.dom_model.proofs.finishing.kinds_of.Given as goal

abbrev pub invariant-loop-posted : goal.invariant-loop-posted
invariant-loop-posted l = (l.kinds.items ≡ map (λ c. c.kind) l.yielded)
