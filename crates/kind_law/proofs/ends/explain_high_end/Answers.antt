use Rattle.std.proofs.Common.{rules, ◌≡◌, ◌≤ℤ◌, ◌<ℤ◌, ◌+ℤ◌, pos, arith, FitsSigned, w64, to_z, of_z}
use Rattle.std.proofs.lemmas.Int.{ints, to_z-of_z}
use Rattle.dom_cells.specs.Cell.{has_of, hi_of}
use Rattle.dom_cells.specs.Box.{cell_of}
use Rattle.dom_cells.specs.Flagged.{IsFloor}
use Rattle.kind_law.specs.Reason.{CoversBetween, IsHighBound}
use Rattle.kind_law.proofs.EndLaws.{high_gap_told}
use Rattle.kind_law.proofs.ends.explain_high_end.Goals as goal

pub returns-in_ok-explain_between-in-Some-clause-covers : goal.returns-in_ok-explain_between-in-Some-clause-covers
returns-in_ok-explain_between-in-Some-clause-covers c =
    let bound : IsHighBound c.args.cells.now.state c.args.implied c.args.var.0 c.in-Some.bound = c.in-Some.ensures in
    let below : c.in-Some.bound <ℤ hi_of (cell_of c.args.cells.now.state c.args.var.0) = bound.high in
    let high_is : c.hi-hi.result ≡ hi_of (cell_of c.args.cells.now.state c.args.var.0) = c.hi-hi.ensures.hi in
    let high_fits : FitsSigned w64 c.hi-hi.result = search rules in
    let bound_fits : FitsSigned w64 c.in-Some.bound = search rules in
    let end_fits : FitsSigned w64 c.floor-end.result = search rules in
    let end : IsFloor (has_of (cell_of c.args.cells.now.state c.args.var.0)) c.in-Some.bound c.floor-end.result = rw (to_z-of_z w64 c.in-Some.bound bound_fits) at c.floor-end.ensures in
    let at_most : c.floor-end.result ≤ℤ c.in-Some.bound = end.at_most in
    let first : to_z w64 (of_z w64 (to_z w64 (of_z w64 c.floor-end.result) +ℤ pos 1)) ≡ (c.floor-end.result +ℤ pos 1) = omega (arith, ints) in
    let last : to_z w64 (of_z w64 (to_z w64 (of_z w64 c.in-Some.bound) +ℤ pos 1)) ≡ (c.in-Some.bound +ℤ pos 1) = omega (arith, ints) in
    let told : CoversBetween c.args.cells.now.state c.explain_between.new.out c.args.var.0 (c.floor-end.result +ℤ pos 1) (c.in-Some.bound +ℤ pos 1) =
    rw (first, last) at c.in_ok-explain_between-in-Some.ensures.covers in
    high_gap_told c.args.cells.now.state c.args.implied c.explain_between.new.out c.args.var.0 c.in-Some.bound c.floor-end.result
    (c.hi-hi.ensures.sound.cells c.args.var.0 c.requires.var) c.in-Some.ensures end told
