use Rattle.std.proofs.Common.{rules, ◌≡◌, ◌<ℤ◌, ◌+ℤ◌, pos, arith, FitsSigned, w64, to_z, of_z}
use Rattle.std.proofs.lemmas.Int.{ints}
use Rattle.dom_cells.specs.Box.{cell_of}
use Rattle.dom_cells.specs.Cell.{hi_of}
use Rattle.kind_law.specs.Reason.{CoversBetween, IsHighBound}
use Rattle.kind_law.proofs.AskedLaws.{high_between_told}
use Rattle.kind_law.proofs.bounds.explain_high_at.Goals as goal

pub overflow_add-own : goal.overflow_add-own
overflow_add-own c =
    let own : IsHighBound c.args.cells.now.state c.args.implied c.args.var.0 c.in-Some.own = c.in-Some.ensures in
    let below : c.in-Some.own <ℤ hi_of (cell_of c.args.cells.now.state c.args.var.0) = own.high in
    let high_is : c.hi-hi.result ≡ hi_of (cell_of c.args.cells.now.state c.args.var.0) = c.hi-hi.ensures.hi in
    let high_fits : FitsSigned w64 c.hi-hi.result = search rules in
    let own_fits : FitsSigned w64 c.in-Some.own = search rules in
    omega (arith, ints)

pub returns-in_ok-explain_between-in-Some-clause-covers : goal.returns-in_ok-explain_between-in-Some-clause-covers
returns-in_ok-explain_between-in-Some-clause-covers c =
    let own : IsHighBound c.args.cells.now.state c.args.implied c.args.var.0 c.in-Some.own = c.in-Some.ensures in
    let below : c.in-Some.own <ℤ hi_of (cell_of c.args.cells.now.state c.args.var.0) = own.high in
    let high_is : c.hi-hi.result ≡ hi_of (cell_of c.args.cells.now.state c.args.var.0) = c.hi-hi.ensures.hi in
    let high_fits : FitsSigned w64 c.hi-hi.result = search rules in
    let own_fits : FitsSigned w64 c.in-Some.own = search rules in
    let bound_fits : FitsSigned w64 c.args.bound = c.ranges.bound in
    let under : c.args.bound <ℤ c.in-Some.own = omega (arith, ints) in
    let first : to_z w64 (of_z w64 (to_z w64 (of_z w64 c.args.bound) +ℤ pos 1)) ≡ (c.args.bound +ℤ pos 1) = omega (arith, ints) in
    let last : to_z w64 (of_z w64 (to_z w64 (of_z w64 c.in-Some.own) +ℤ pos 1)) ≡ (c.in-Some.own +ℤ pos 1) = omega (arith, ints) in
    let told : CoversBetween c.args.cells.now.state c.explain_between.new.out c.args.var.0 (c.args.bound +ℤ pos 1) (c.in-Some.own +ℤ pos 1) =
    rw (first, last) at c.in_ok-explain_between-in-Some.ensures.covers in
    high_between_told c.args.cells.now.state c.args.implied c.explain_between.new.out c.args.var.0 c.in-Some.own c.args.bound
    (c.hi-hi.ensures.sound.cells c.args.var.0 c.requires.var) c.in-Some.ensures c.requires.bound told
