use Rattle.std.proofs.Common.{rules, FitsSigned, w64}
use Rattle.std.proofs.lemmas.Int.{to_z-of_z}
use Rattle.dom_cells.specs.Cell.{has_of}
use Rattle.dom_cells.specs.Box.{cell_of}
use Rattle.dom_cells.specs.Flagged.{IsCeiling}
use Rattle.kind_law.specs.Reason.{CoversBetween}
use Rattle.kind_law.proofs.EndLaws.{low_gap_told}
use Rattle.kind_law.proofs.ends.explain_low_end.Goals as goal

pub returns-in_ok-explain_between-in-Some-clause-covers : goal.returns-in_ok-explain_between-in-Some-clause-covers
returns-in_ok-explain_between-in-Some-clause-covers c =
    let bound_fits : FitsSigned w64 c.in-Some.bound = search rules in
    let end_fits : FitsSigned w64 c.ceiling-end.result = search rules in
    let end : IsCeiling (has_of (cell_of c.args.cells.now.state c.args.var.0)) c.in-Some.bound c.ceiling-end.result = rw (to_z-of_z w64 c.in-Some.bound bound_fits) at c.ceiling-end.ensures in
    let told : CoversBetween c.args.cells.now.state c.explain_between.new.out c.args.var.0 c.in-Some.bound c.ceiling-end.result =
    rw (to_z-of_z w64 c.in-Some.bound bound_fits, to_z-of_z w64 c.ceiling-end.result end_fits) at c.in_ok-explain_between-in-Some.ensures.covers in
    low_gap_told c.args.cells.now.state c.args.implied c.explain_between.new.out c.args.var.0 c.in-Some.bound c.ceiling-end.result
    (c.lo-lo.ensures.sound.cells c.args.var.0 c.requires.var) c.in-Some.ensures end told
