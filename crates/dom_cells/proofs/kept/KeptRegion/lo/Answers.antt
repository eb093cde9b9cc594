use Rattle.std.proofs.Common.{rules, ◌≡◌, ◌∙◌, arith, FitsSigned, w64}
use Rattle.std.proofs.lemmas.Int.{to_z-of_z}
use Rattle.dom_cells.specs.Box.{cell_of}
use Rattle.dom_cells.proofs.KeptLaws.{kept-lo_le, kept-lo_ceiling, kept-below_hi}
use Rattle.dom_cells.proofs.kept.KeptRegion.lo.Goals as goal

pub ceiling-requires-clause-high : goal.ceiling-requires-clause-high
ceiling-requires-clause-high c =
    let v_fits : FitsSigned w64 c.args.self.now.literal.value = search rules in
    let at : c.args.self.now.literal.var.0 ≡ c.args.var.0 = omega arith in
    rw (to_z-of_z w64 c.args.self.now.literal.value v_fits) (kept-below_hi c.args.var.0 (cell_of c.args.self.now.cells.now.state c.args.var.0) c.args.self.now.literal c.args.self.now.end at c.in-Ge.is (c.lo-lo.ensures.sound.cells c.args.var.0 c.requires.below) c.requires.sane)

pub returns-else-value-lo : goal.returns-else-value-lo
returns-else-value-lo c =
    let fits : FitsSigned w64 c.ceiling.result = search rules in
    let v_fits : FitsSigned w64 c.args.self.now.literal.value = search rules in
    let at : c.args.self.now.literal.var.0 ≡ c.args.var.0 = omega arith in
    rw (to_z-of_z w64 c.ceiling.result fits)
    (kept-lo_ceiling c.args.var.0 (cell_of c.args.self.now.cells.now.state c.args.var.0) c.args.self.now.literal c.args.self.now.end at c.in-Ge.is c.ceiling.result (rw (to_z-of_z w64 c.args.self.now.literal.value v_fits) at c.ceiling.ensures) c.requires.sane)

pub returns-in_default : goal.returns-in_default
returns-in_default c =
    let fits : FitsSigned w64 c.lo-lo.result = search rules in
    let at : c.args.self.now.literal.var.0 ≡ c.args.var.0 = omega arith in
    rw (to_z-of_z w64 c.lo-lo.result fits) (c.lo-lo.ensures.lo ∙ kept-lo_le c.args.var.0 (cell_of c.args.self.now.cells.now.state c.args.var.0) c.args.self.now.literal c.args.self.now.end at c.in_default.not-Ge (c.lo-lo.ensures.sound.cells c.args.var.0 c.requires.below) c.requires.sane)
