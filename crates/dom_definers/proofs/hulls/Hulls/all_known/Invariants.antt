-- Whether those that are left are known decides.
use Rattle.std.proofs.Common.{◌≡◌, drop}
use Rattle.dom_definers.specs.Hulls.{all_known}
use Rattle.dom_definers.proofs.hulls.Hulls.all_known.Given as goal

abbrev pub invariant-loop-var : goal.invariant-loop-var
invariant-loop-var l = record { left : all_known l.self (drop l.var-index l.vars) ≡ all_known l.self l.vars }
