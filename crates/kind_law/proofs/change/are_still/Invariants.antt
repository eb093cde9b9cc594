use Rattle.std.proofs.Common.{◌≡◌, drop}
use Rattle.kind_law.specs.Laws.{all_still}
use Rattle.kind_law.proofs.change.are_still.Given as goal

abbrev pub invariant-loop-var : goal.invariant-loop-var
invariant-loop-var l = all_still l.vars l.view ≡ all_still (drop l.var-index l.vars) l.view
