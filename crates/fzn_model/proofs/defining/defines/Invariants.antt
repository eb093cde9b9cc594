-- What the rest of the annotations define is what all of them define.
use Rattle.fzn_model.proofs.DefiningLaws.{Decides}
use Rattle.fzn_model.proofs.defining.defines.Given as goal

abbrev pub invariant-loop-annotation : goal.invariant-loop-annotation
invariant-loop-annotation l = Decides l.scope l.defined l.name l.kind l.annotations l.annotation-index
