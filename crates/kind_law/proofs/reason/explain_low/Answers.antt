use Rattle.std.proofs.Common.{rules, ◌≡◌, ◌∙◌, ap, ◌-ℤ◌, pos, [], ◌∷◌, ◌++◌, arith, FitsSigned, w64, to_z, of_z, ◌<ℤ◌}
use Rattle.std.proofs.lemmas.Int.{ints}
use Rattle.dom_cells.specs.Cell.{lo_of}
use Rattle.dom_cells.specs.Box.{cell_of, start_at}
use Rattle.dom_core.specs.declared.literal.Rel.TheVariants.{Le}
use Rattle.kind_law.proofs.ReasonLaws.{adds-push, low_fine, low_told}
use Rattle.kind_law.proofs.reason.explain_low.Goals as goal

pub returns-clause-fine : goal.returns-clause-fine
returns-clause-fine c =
    let end_is : c.lo-lo.result ≡ lo_of (cell_of c.args.cells.now.state c.args.var.0) = c.lo-lo.ensures.lo in
    let start_is : c.lo-start.result ≡ lo_of (start_at c.args.cells.now.state.starts c.args.var.0) = c.lo-start.ensures ∙ ap lo_of c.start.ensures.start in
    let end_fits : FitsSigned w64 c.lo-lo.result = search rules in
    let start_fits : FitsSigned w64 c.lo-start.result = search rules in
    let moved : lo_of (start_at c.args.cells.now.state.starts c.args.var.0) <ℤ lo_of (cell_of c.args.cells.now.state c.args.var.0) = omega (arith, ints) in
    let value : to_z w64 (of_z w64 (to_z w64 (of_z w64 c.lo-lo.result) -ℤ pos 1)) ≡ (lo_of (cell_of c.args.cells.now.state c.args.var.0) -ℤ pos 1) = omega (arith, ints) in
    let grown : c.push.new.self ≡ c.args.out.now ++ record { var = c.args.var; rel = Le; value = lo_of (cell_of c.args.cells.now.state c.args.var.0) -ℤ pos 1 } ∷ [] = rw value at c.in_ok-push.ensures.ok in
    adds-push c.args.cells.now.state c.args.out.now c.push.new.self (record { var = c.args.var; rel = Le; value = lo_of (cell_of c.args.cells.now.state c.args.var.0) -ℤ pos 1 }) grown (low_fine c.args.cells.now.state c.args.var c.lo-lo.ensures.sound c.requires moved)

pub returns-clause-covers : goal.returns-clause-covers
returns-clause-covers c =
    let end_is : c.lo-lo.result ≡ lo_of (cell_of c.args.cells.now.state c.args.var.0) = c.lo-lo.ensures.lo in
    let start_is : c.lo-start.result ≡ lo_of (start_at c.args.cells.now.state.starts c.args.var.0) = c.lo-start.ensures ∙ ap lo_of c.start.ensures.start in
    let end_fits : FitsSigned w64 c.lo-lo.result = search rules in
    let start_fits : FitsSigned w64 c.lo-start.result = search rules in
    let moved : lo_of (start_at c.args.cells.now.state.starts c.args.var.0) <ℤ lo_of (cell_of c.args.cells.now.state c.args.var.0) = omega (arith, ints) in
    let value : to_z w64 (of_z w64 (to_z w64 (of_z w64 c.lo-lo.result) -ℤ pos 1)) ≡ (lo_of (cell_of c.args.cells.now.state c.args.var.0) -ℤ pos 1) = omega (arith, ints) in
    let grown : c.push.new.self ≡ c.args.out.now ++ record { var = c.args.var; rel = Le; value = lo_of (cell_of c.args.cells.now.state c.args.var.0) -ℤ pos 1 } ∷ [] = rw value at c.in_ok-push.ensures.ok in
    rw grown (low_told c.args.cells.now.state c.args.var c.args.out.now)
