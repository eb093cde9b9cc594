use Rattle.std.proofs.Common.{subst, Some}
use Rattle.dom_cells.specs.Box.{cell_of}
use Rattle.kind_law.specs.Next.{IsNext}
use Rattle.kind_law.proofs.ReasonLaws.{next_cause}
use Rattle.kind_sum.specs.SumRelation.{sum_vars, sum_refuted}
use Rattle.bench_linear.proofs.DigitLaws.{digits_below, digits_fit}
use Rattle.bench_linear.proofs.round.ask.Goals as goal

pub reason-requires-clause-cause : goal.reason-requires-clause-cause
reason-requires-clause-cause c =
    let next : IsNext (sum_refuted c.args.sum.now) (sum_vars c.args.sum.now) (cell_of c.args.cells.now.state) (Some c.in-Some.literal) =
    subst (IsNext (sum_refuted c.args.sum.now) (sum_vars c.args.sum.now) (cell_of c.args.cells.now.state)) c.in-Some.is c.next-implied.ensures in
    (next_cause (sum_refuted c.args.sum.now) (sum_vars c.args.sum.now) c.args.cells.now.state c.in-Some.literal
    c.width-width.ensures.sound (digits_below 1000 c.args.sum.now c.args.cells.now.state.starts c.requires.sum c.requires.starts) next).1

pub reason-requires-clause-var : goal.reason-requires-clause-var
reason-requires-clause-var c =
    let next : IsNext (sum_refuted c.args.sum.now) (sum_vars c.args.sum.now) (cell_of c.args.cells.now.state) (Some c.in-Some.literal) =
    subst (IsNext (sum_refuted c.args.sum.now) (sum_vars c.args.sum.now) (cell_of c.args.cells.now.state)) c.in-Some.is c.next-implied.ensures in
    (next_cause (sum_refuted c.args.sum.now) (sum_vars c.args.sum.now) c.args.cells.now.state c.in-Some.literal
    c.width-width.ensures.sound (digits_below 1000 c.args.sum.now c.args.cells.now.state.starts c.requires.sum c.requires.starts) next).0

pub reason-requires-clause-fits : goal.reason-requires-clause-fits
reason-requires-clause-fits c = digits_fit 1000 c.args.sum.now c.args.cells.now.state c.requires.sum c.requires.starts c.width-width.ensures.sound
