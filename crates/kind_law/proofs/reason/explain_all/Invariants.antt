use Rattle.std.proofs.Common.{take}
use Rattle.kind_law.specs.Laws.{Each}
use Rattle.kind_law.specs.Reason.{AddsFine, CoversVar, looks}
use Rattle.kind_law.proofs.reason.explain_all.Given as goal

abbrev pub invariant-loop-var : goal.invariant-loop-var
invariant-loop-var g l = record {
  fine : AddsFine l.fn.cells.state l.fn.out l.out;
  covers : Each (λ u. CoversVar l.fn.cells.state l.out (looks (g.K.Kind.inside l.fn.kind) l.fn.implied u.0) u.0) (take l.var-index (g.K.Kind.vars l.fn.kind));
}
