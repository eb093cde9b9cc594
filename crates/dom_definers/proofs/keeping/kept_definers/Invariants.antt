-- The definers so far.
use Rattle.std.proofs.Common.{◌≡◌, map, take}
use Rattle.dom_definers.specs.Hulls.{kept_definer}
use Rattle.dom_definers.proofs.keeping.kept_definers.Given as goal

abbrev pub invariant-loop-definer : goal.invariant-loop-definer
invariant-loop-definer l = record { kept : l.kept.items ≡ map (kept_definer l.constraints l.hulls) (take l.definer-index l.definers) }
