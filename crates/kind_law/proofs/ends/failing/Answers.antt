use Rattle.std.proofs.Common.{rules, ◌≡◌, refl, ◌≤ℤ◌, ◌+ℤ◌, ◌-ℤ◌, pos, arith, FitsSigned, w64, to_z, of_z, Some}
use Rattle.std.proofs.lemmas.Int.{ints}
use Rattle.dom_core.specs.declared.literal.Rel.TheVariants.{Ge}
use Rattle.dom_cells.specs.Box.{cell_of}
use Rattle.dom_cells.specs.Cell.{hi_of, lo_of}
use Rattle.dom_cells.proofs.KeptLaws.{not_le}
use Rattle.kind_law.specs.Reason.{IsLowBound, IsHighBound}
use Rattle.kind_law.proofs.EndLaws.{low_bound_is, high_bound_is, le_fails, ge_fails}
use Rattle.kind_law.proofs.ends.failing.Goals as goal

pub overflow_add-result : goal.overflow_add-result
overflow_add-result c =
    let bound : IsLowBound c.args.cells.now.state (Some c.args.literal) c.args.literal.var.0 (c.args.literal.value +ℤ pos 1) =
    low_bound_is c.args.cells.now.state c.args.literal c.args.literal.var.0 refl c.in-Le.is (c.hi-hi.ensures.sound.cells c.args.literal.var.0 c.requires.var) c.requires.open in
    let within : (c.args.literal.value +ℤ pos 1) ≤ℤ hi_of (cell_of c.args.cells.now.state c.args.literal.var.0) = bound.high in
    let end_is : c.hi-hi.result ≡ hi_of (cell_of c.args.cells.now.state c.args.literal.var.0) = c.hi-hi.ensures.hi in
    let end_fits : FitsSigned w64 c.hi-hi.result = search rules in
    let value_fits : FitsSigned w64 c.args.literal.value = search rules in
    omega (arith, ints)

pub returns-in-Le : goal.returns-in-Le
returns-in-Le c =
    let bound : IsLowBound c.args.cells.now.state (Some c.args.literal) c.args.literal.var.0 (c.args.literal.value +ℤ pos 1) =
    low_bound_is c.args.cells.now.state c.args.literal c.args.literal.var.0 refl c.in-Le.is (c.hi-hi.ensures.sound.cells c.args.literal.var.0 c.requires.var) c.requires.open in
    let within : (c.args.literal.value +ℤ pos 1) ≤ℤ hi_of (cell_of c.args.cells.now.state c.args.literal.var.0) = bound.high in
    let end_is : c.hi-hi.result ≡ hi_of (cell_of c.args.cells.now.state c.args.literal.var.0) = c.hi-hi.ensures.hi in
    let end_fits : FitsSigned w64 c.hi-hi.result = search rules in
    let value_fits : FitsSigned w64 c.args.literal.value = search rules in
    let value : to_z w64 (of_z w64 (to_z w64 (of_z w64 c.args.literal.value) +ℤ pos 1)) ≡ (c.args.literal.value +ℤ pos 1) = omega (arith, ints) in
    rw value (le_fails c.args.literal c.in-Le.is)

pub overflow_sub-result : goal.overflow_sub-result
overflow_sub-result c =
    let rel : c.args.literal.rel ≡ Ge = not_le c.args.literal.rel c.requires.open.end_is c.in_default.not-Le in
    let bound : IsHighBound c.args.cells.now.state (Some c.args.literal) c.args.literal.var.0 (c.args.literal.value -ℤ pos 1) =
    high_bound_is c.args.cells.now.state c.args.literal c.args.literal.var.0 refl rel (c.lo-lo.ensures.sound.cells c.args.literal.var.0 c.requires.var) c.requires.open in
    let within : lo_of (cell_of c.args.cells.now.state c.args.literal.var.0) ≤ℤ (c.args.literal.value -ℤ pos 1) = bound.low in
    let end_is : c.lo-lo.result ≡ lo_of (cell_of c.args.cells.now.state c.args.literal.var.0) = c.lo-lo.ensures.lo in
    let end_fits : FitsSigned w64 c.lo-lo.result = search rules in
    let value_fits : FitsSigned w64 c.args.literal.value = search rules in
    omega (arith, ints)

pub returns-in_default : goal.returns-in_default
returns-in_default c =
    let rel : c.args.literal.rel ≡ Ge = not_le c.args.literal.rel c.requires.open.end_is c.in_default.not-Le in
    let bound : IsHighBound c.args.cells.now.state (Some c.args.literal) c.args.literal.var.0 (c.args.literal.value -ℤ pos 1) =
    high_bound_is c.args.cells.now.state c.args.literal c.args.literal.var.0 refl rel (c.lo-lo.ensures.sound.cells c.args.literal.var.0 c.requires.var) c.requires.open in
    let within : lo_of (cell_of c.args.cells.now.state c.args.literal.var.0) ≤ℤ (c.args.literal.value -ℤ pos 1) = bound.low in
    let end_is : c.lo-lo.result ≡ lo_of (cell_of c.args.cells.now.state c.args.literal.var.0) = c.lo-lo.ensures.lo in
    let end_fits : FitsSigned w64 c.lo-lo.result = search rules in
    let value_fits : FitsSigned w64 c.args.literal.value = search rules in
    let value : to_z w64 (of_z w64 (to_z w64 (of_z w64 c.args.literal.value) -ℤ pos 1)) ≡ (c.args.literal.value -ℤ pos 1) = omega (arith, ints) in
    rw value (ge_fails c.args.literal rel)
