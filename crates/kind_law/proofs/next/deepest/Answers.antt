use Rattle.std.proofs.Common.{◌≡◌, ◌∙◌, sym, ap, ◌<◌, ◌+◌, ◌-◌, length, arith, false}
use Rattle.dom_cells.specs.Box.{cell_of, kept}
use Rattle.dom_core.specs.declared.literal.Literal.{Literal}
use Rattle.kind_law.specs.Next.{size_of, steps_refuted}
use Rattle.kind_law.proofs.BoundLaws.{box-sane, trim-bound}
use Rattle.kind_law.proofs.EachLaws.{each_at}
use Rattle.std.proofs.Common.{◌/◌}
use Rattle.kind_law.proofs.NextLaws.{steps_fall, first_fails, found_down}
use Rattle.kind_law.proofs.next.deepest.Goals as goal

pub is_refuted_within-requires-clause-bound : goal.is_refuted_within-requires-clause-bound
is_refuted_within-requires-clause-bound g c =
    rw c.trimmed.ensures (trim-bound (cell_of c.args.cells.now.state) (g.P.Probe.vars c.args.probe.now) (length c.args.cells.now.state.starts) c.args.var c.args.side 1 c.requires.var.below (c.distance-size.ensures.sound.cells c.args.var.0 (each_at (λ u. u.0 < (length c.args.cells.now.state.starts)) (g.P.Probe.vars c.args.probe.now) c.requires.var.place c.args.var c.requires.var.below c.requires.var.reads)) (omega arith))

pub returns-then-not-is_refuted_within-clause-deepest : goal.returns-then-not-is_refuted_within-clause-deepest
returns-then-not-is_refuted_within-clause-deepest g c =
    let test : (steps_refuted (g.P.Probe.refuted c.args.probe.now) (cell_of c.args.cells.now.state) c.args.var c.args.side) 1 ≡ false = sym (ap (λ (l : Literal). (g.P.Probe.refuted c.args.probe.now) (kept (cell_of c.args.cells.now.state) l)) c.trimmed.ensures) ∙ sym c.is_refuted_within.ensures ∙ c.if-not-is_refuted_within.true in
    first_fails (steps_refuted (g.P.Probe.refuted c.args.probe.now) (cell_of c.args.cells.now.state) c.args.var c.args.side) (size_of (cell_of c.args.cells.now.state c.args.var.0)) (steps_fall (g.P.Probe.refuted c.args.probe.now) (g.P.Probe.inside c.args.probe.now) (g.P.Probe.vars c.args.probe.now) (cell_of c.args.cells.now.state) (length c.args.cells.now.state.starts) c.args.var c.args.side (g.met.P.Probe.shrink_law c.args.probe.now) c.requires.var.below (box-sane c.args.cells.now.state (g.P.Probe.vars c.args.probe.now) c.distance-size.ensures.sound c.requires.var.below) (c.distance-size.ensures.sound.cells c.args.var.0 (each_at (λ u. u.0 < (length c.args.cells.now.state.starts)) (g.P.Probe.vars c.args.probe.now) c.requires.var.place c.args.var c.requires.var.below c.requires.var.reads))) test

pub trimmed-requires-in-loop-gap-clause-var : goal.trimmed-requires-in-loop-gap-clause-var
trimmed-requires-in-loop-gap-clause-var g c = (each_at (λ u. u.0 < (length c.args.cells.now.state.starts)) (g.P.Probe.vars c.args.probe.now) c.requires.var.place c.args.var c.requires.var.below c.requires.var.reads)

pub is_refuted_within-requires-in-loop-gap-clause-bound : goal.is_refuted_within-requires-in-loop-gap-clause-bound
is_refuted_within-requires-in-loop-gap-clause-bound g c =
    rw c.trimmed-in-loop-gap.ensures
    (trim-bound (cell_of c.args.cells.now.state) (g.P.Probe.vars c.args.probe.now) (length c.args.cells.now.state.starts) c.args.var c.args.side (c.loop-gap.known + (c.loop-gap.gap - c.loop-gap.gap / 2)) c.requires.var.below (c.distance-size.ensures.sound.cells c.args.var.0 (each_at (λ u. u.0 < (length c.args.cells.now.state.starts)) (g.P.Probe.vars c.args.probe.now) c.requires.var.place c.args.var c.requires.var.below c.requires.var.reads)) (omega (arith, c.loop-gap.invariant.some)))

pub loop-gap-preserved : goal.loop-gap-preserved
loop-gap-preserved g c =
    let test : (steps_refuted (g.P.Probe.refuted c.args.probe.now) (cell_of c.args.cells.now.state) c.args.var c.args.side) (c.loop-gap.known + (c.loop-gap.gap - c.loop-gap.gap / 2)) ≡ false =
    sym (ap (λ (l : Literal). (g.P.Probe.refuted c.args.probe.now) (kept (cell_of c.args.cells.now.state) l)) c.trimmed-in-loop-gap.ensures) ∙ sym c.is_refuted_within-in-loop-gap.ensures ∙ c.if-is_refuted_within.false in
    found_down (steps_refuted (g.P.Probe.refuted c.args.probe.now) (cell_of c.args.cells.now.state) c.args.var c.args.side) (size_of (cell_of c.args.cells.now.state c.args.var.0)) c.loop-gap.known c.loop-gap.gap (c.loop-gap.gap - c.loop-gap.gap / 2) (steps_fall (g.P.Probe.refuted c.args.probe.now) (g.P.Probe.inside c.args.probe.now) (g.P.Probe.vars c.args.probe.now) (cell_of c.args.cells.now.state) (length c.args.cells.now.state.starts) c.args.var c.args.side (g.met.P.Probe.shrink_law c.args.probe.now) c.requires.var.below (box-sane c.args.cells.now.state (g.P.Probe.vars c.args.probe.now) c.distance-size.ensures.sound c.requires.var.below) (c.distance-size.ensures.sound.cells c.args.var.0 (each_at (λ u. u.0 < (length c.args.cells.now.state.starts)) (g.P.Probe.vars c.args.probe.now) c.requires.var.place c.args.var c.requires.var.below c.requires.var.reads))) c.loop-gap.invariant (omega arith) (omega arith) test
