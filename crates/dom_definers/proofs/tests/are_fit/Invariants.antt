-- The definers so far are fit.
use Rattle.std.proofs.Common.{◌<◌, ℕ}
use Rattle.dom_definers.specs.Definers.{definer_at}
use Rattle.dom_definers.specs.Hulls.{IsFitDefiner}
use Rattle.dom_definers.proofs.tests.are_fit.Given as goal

abbrev pub invariant-loop-definer : goal.invariant-loop-definer
invariant-loop-definer l = record { fit : (v : ℕ) → v < l.definer-index → IsFitDefiner l.count l.constraints (definer_at l.definers v) }
