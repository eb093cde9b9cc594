use Rattle.std.proofs.Common.{subst, Some}
use Rattle.dom_cells.specs.Box.{cell_of}
use Rattle.kind_law.specs.Next.{IsNext}
use Rattle.kind_law.proofs.ReasonLaws.{next_cause}
use Rattle.kind_bool.proofs.tests.explained.Goals as goal

pub reason-requires-clause-cause : goal.reason-requires-clause-cause
reason-requires-clause-cause g c =
    let next : IsNext (g.K.Kind.refuted c.args.kind.now) (g.K.Kind.vars c.args.kind.now) (cell_of c.args.cells.now.state) (Some c.in-Some.literal) =
    subst (IsNext (g.K.Kind.refuted c.args.kind.now) (g.K.Kind.vars c.args.kind.now) (cell_of c.args.cells.now.state)) c.in-Some.is c.next-implied.ensures in
    (next_cause (g.K.Kind.refuted c.args.kind.now) (g.K.Kind.vars c.args.kind.now) c.args.cells.now.state c.in-Some.literal
    c.width-width.ensures.sound c.requires.below next).1

pub reason-requires-clause-var : goal.reason-requires-clause-var
reason-requires-clause-var g c =
    let next : IsNext (g.K.Kind.refuted c.args.kind.now) (g.K.Kind.vars c.args.kind.now) (cell_of c.args.cells.now.state) (Some c.in-Some.literal) =
    subst (IsNext (g.K.Kind.refuted c.args.kind.now) (g.K.Kind.vars c.args.kind.now) (cell_of c.args.cells.now.state)) c.in-Some.is c.next-implied.ensures in
    (next_cause (g.K.Kind.refuted c.args.kind.now) (g.K.Kind.vars c.args.kind.now) c.args.cells.now.state c.in-Some.literal
    c.width-width.ensures.sound c.requires.below next).0
