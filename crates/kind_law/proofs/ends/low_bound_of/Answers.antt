use Rattle.std.proofs.Common.{rules, ◌≡◌, sym, ◌≤ℤ◌, ◌+ℤ◌, pos, arith, FitsSigned, w64, to_z, of_z}
use Rattle.std.proofs.lemmas.Int.{ints}
use Rattle.dom_cells.specs.Box.{cell_of}
use Rattle.dom_cells.specs.Cell.{hi_of}
use Rattle.kind_law.specs.Reason.{IsLowBound}
use Rattle.std.proofs.Common.{Some}
use Rattle.kind_law.proofs.EndLaws.{low_bound_is}
use Rattle.kind_law.proofs.ends.low_bound_of.Goals as goal

pub overflow_add-result : goal.overflow_add-result
overflow_add-result c =
    let same : c.args.var.0 ≡ c.args.literal.var.0 = sym (search rules) in
    let bound : IsLowBound c.args.cells.now.state (Some c.args.literal) c.args.var.0 (c.args.literal.value +ℤ pos 1) =
    low_bound_is c.args.cells.now.state c.args.literal c.args.var.0 same c.in-Le.is (c.hi-hi.ensures.sound.cells c.args.var.0 c.requires.var) c.requires.open in
    let within : (c.args.literal.value +ℤ pos 1) ≤ℤ hi_of (cell_of c.args.cells.now.state c.args.var.0) = bound.high in
    let end_is : c.hi-hi.result ≡ hi_of (cell_of c.args.cells.now.state c.args.var.0) = c.hi-hi.ensures.hi in
    let end_fits : FitsSigned w64 c.hi-hi.result = search rules in
    let value_fits : FitsSigned w64 c.args.literal.value = search rules in
    omega (arith, ints)

pub returns-in-Le : goal.returns-in-Le
returns-in-Le c =
    let same : c.args.var.0 ≡ c.args.literal.var.0 = sym (search rules) in
    let bound : IsLowBound c.args.cells.now.state (Some c.args.literal) c.args.var.0 (c.args.literal.value +ℤ pos 1) =
    low_bound_is c.args.cells.now.state c.args.literal c.args.var.0 same c.in-Le.is (c.hi-hi.ensures.sound.cells c.args.var.0 c.requires.var) c.requires.open in
    let within : (c.args.literal.value +ℤ pos 1) ≤ℤ hi_of (cell_of c.args.cells.now.state c.args.var.0) = bound.high in
    let end_is : c.hi-hi.result ≡ hi_of (cell_of c.args.cells.now.state c.args.var.0) = c.hi-hi.ensures.hi in
    let end_fits : FitsSigned w64 c.hi-hi.result = search rules in
    let value_fits : FitsSigned w64 c.args.literal.value = search rules in
    let value : to_z w64 (of_z w64 (to_z w64 (of_z w64 c.args.literal.value) +ℤ pos 1)) ≡ (c.args.literal.value +ℤ pos 1) = omega (arith, ints) in
    rw value bound
