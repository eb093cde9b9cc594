use Rattle.std.proofs.Common.{subst, Some}
use Rattle.dom_cells.specs.Box.{cell_of}
use Rattle.kind_law.specs.Next.{IsNext}
use Rattle.kind_law.proofs.ReasonLaws.{next_cause}
use Rattle.kind_reified.proofs.reason_tests.why.Goals as goal

pub reason-requires-in-Some-clause-cause : goal.reason-requires-in-Some-clause-cause
reason-requires-in-Some-clause-cause g c =
    let next : IsNext (g.K.Kind.refuted c.args.kind.now) (g.K.Kind.vars c.args.kind.now) (cell_of c.args.cells.now.state) (Some c.in-Some.end) =
    subst (IsNext (g.K.Kind.refuted c.args.kind.now) (g.K.Kind.vars c.args.kind.now) (cell_of c.args.cells.now.state)) c.in-Some.is c.next.ensures in
    (next_cause (g.K.Kind.refuted c.args.kind.now) (g.K.Kind.vars c.args.kind.now) c.args.cells.now.state c.in-Some.end
    c.width-width.ensures.sound c.requires.below next).1

pub reason-requires-in-Some-clause-var : goal.reason-requires-in-Some-clause-var
reason-requires-in-Some-clause-var g c =
    let next : IsNext (g.K.Kind.refuted c.args.kind.now) (g.K.Kind.vars c.args.kind.now) (cell_of c.args.cells.now.state) (Some c.in-Some.end) =
    subst (IsNext (g.K.Kind.refuted c.args.kind.now) (g.K.Kind.vars c.args.kind.now) (cell_of c.args.cells.now.state)) c.in-Some.is c.next.ensures in
    (next_cause (g.K.Kind.refuted c.args.kind.now) (g.K.Kind.vars c.args.kind.now) c.args.cells.now.state c.in-Some.end
    c.width-width.ensures.sound c.requires.below next).0
