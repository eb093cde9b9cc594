use Rattle.std.proofs.Common.{rules, arith, FitsSigned, w64}
use Rattle.std.proofs.lemmas.Int.{ints, to_z-of_z}
use Rattle.dom_cells.proofs.CellLaws.{up_step}
use Rattle.dom_cells.proofs.cell.Cell.step_up.Goals as goal

pub returns : goal.returns
returns c =
    let lo_fits : FitsSigned w64 c.args.self.now.lo = search rules in
    let hi_fits : FitsSigned w64 c.args.self.now.hi = search rules in
    let v_fits : FitsSigned w64 c.args.literal.value = search rules in
    let r_fits : FitsSigned w64 c.ceiling.result = search rules in
    rw (to_z-of_z w64 c.args.self.now.hi hi_fits, to_z-of_z w64 c.ceiling.result r_fits, c.len.ensures)
    (up_step c.args.self.now c.args.literal c.ceiling.result c.requires.sound c.requires.rel (omega (arith, ints)) (omega (arith, ints))
    (rw (to_z-of_z w64 c.args.literal.value v_fits) at c.ceiling.ensures))
