-- Whether those that are left are known decides.
use Rattle.std.proofs.Common.{◌≡◌, drop}
use Rattle.dom_definers.specs.Width.{others_known}
use Rattle.dom_definers.proofs.width.others_known.Given as goal

abbrev pub invariant-loop-var : goal.invariant-loop-var
invariant-loop-var l = record { left : others_known l.hulls l.defined (drop l.var-index l.vars) ≡ others_known l.hulls l.defined l.vars }
