use Rattle.std.proofs.Common.{subst, ◌<◌, length, arith}
use Rattle.dom_cells.specs.Box.{cell_of}
use Rattle.kind_law.specs.Next.{size_of, steps_refuted, IsDeepest}
use Rattle.kind_law.proofs.EachLaws.{each_at}
use Rattle.kind_law.proofs.NextLaws.{no_end, some_end}
use Rattle.kind_law.proofs.next.end_of.Goals as goal

pub returns-then-steps-eq0 : goal.returns-then-steps-eq0
returns-then-steps-eq0 g c =
    no_end (g.P.Probe.refuted c.args.probe.now) (cell_of c.args.cells.now.state) c.args.var c.args.side (c.deepest-steps.ensures.sound.cells c.args.var.0 (each_at (λ u. u.0 < (length c.args.cells.now.state.starts)) (g.P.Probe.vars c.args.probe.now) c.requires.var.place c.args.var c.requires.var.below c.requires.var.reads)) (subst (IsDeepest (steps_refuted (g.P.Probe.refuted c.args.probe.now) (cell_of c.args.cells.now.state) c.args.var c.args.side) (size_of (cell_of c.args.cells.now.state c.args.var.0))) c.if-steps-eq0.true c.deepest-steps.ensures.deepest)

pub end_at-requires-clause-var : goal.end_at-requires-clause-var
end_at-requires-clause-var g c = (each_at (λ u. u.0 < (length c.args.cells.now.state.starts)) (g.P.Probe.vars c.args.probe.now) c.requires.var.place c.args.var c.requires.var.below c.requires.var.reads)

pub returns : goal.returns
returns g c =
    let some : 0 < c.deepest-steps.result = omega (arith, c.if-steps-eq0.false) in
    rw c.end_at.ensures (some_end (g.P.Probe.refuted c.args.probe.now) (cell_of c.args.cells.now.state) c.args.var c.args.side c.deepest-steps.result (c.deepest-steps.ensures.sound.cells c.args.var.0 (each_at (λ u. u.0 < (length c.args.cells.now.state.starts)) (g.P.Probe.vars c.args.probe.now) c.requires.var.place c.args.var c.requires.var.below c.requires.var.reads)) c.deepest-steps.ensures.deepest some)
