use Rattle.std.proofs.Common.{rules, ◌≡◌, sym, ◌≤ℤ◌, ◌-ℤ◌, pos, arith, FitsSigned, w64, to_z, of_z}
use Rattle.std.proofs.lemmas.Int.{ints}
use Rattle.dom_cells.specs.Box.{cell_of}
use Rattle.dom_cells.specs.Cell.{lo_of}
use Rattle.kind_law.specs.Reason.{IsHighBound}
use Rattle.std.proofs.Common.{Some}
use Rattle.dom_cells.proofs.KeptLaws.{not_ge}
use Rattle.kind_law.proofs.EndLaws.{high_bound_is, high_stays}
use Rattle.kind_law.proofs.ends.high_bound_of.Goals as goal

pub returns-in-Ge : goal.returns-in-Ge
returns-in-Ge c =
    let same : c.args.var.0 ≡ c.args.literal.var.0 = sym (search rules) in
    let bound : IsHighBound c.args.cells.now.state (Some c.args.literal) c.args.var.0 (c.args.literal.value -ℤ pos 1) =
    high_bound_is c.args.cells.now.state c.args.literal c.args.var.0 same c.in-Ge.is (c.lo-lo.ensures.sound.cells c.args.var.0 c.requires.var) c.requires.open in
    let within : lo_of (cell_of c.args.cells.now.state c.args.var.0) ≤ℤ (c.args.literal.value -ℤ pos 1) = bound.low in
    let end_is : c.lo-lo.result ≡ lo_of (cell_of c.args.cells.now.state c.args.var.0) = c.lo-lo.ensures.lo in
    let end_fits : FitsSigned w64 c.lo-lo.result = search rules in
    let value_fits : FitsSigned w64 c.args.literal.value = search rules in
    let value : to_z w64 (of_z w64 (to_z w64 (of_z w64 c.args.literal.value) -ℤ pos 1)) ≡ (c.args.literal.value -ℤ pos 1) = omega (arith, ints) in
    rw value bound

pub returns-in_default : goal.returns-in_default
returns-in_default c =
    let same : c.args.var.0 ≡ c.args.literal.var.0 = sym (search rules) in
    high_stays c.args.cells.now.state c.args.literal c.args.var.0 same (not_ge c.args.literal.rel c.requires.open.end_is c.in_default.not-Ge)
    (c.lo-lo.ensures.sound.cells c.args.var.0 c.requires.var) c.requires.open
