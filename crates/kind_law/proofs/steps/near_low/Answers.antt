use Rattle.std.proofs.Common.{rules, ◌∙◌, sym, ap, subst, ◌+ℤ◌, ◌<ℤ◌, ◌≤ℤ◌, ◌<◌, ◌^◌, ℤ, pos, FitsSigned, w64, to_z, of_z}
use Rattle.std.proofs.lemmas.Int.{to_z-of_z}
use Rattle.dom_cells.specs.Cell.{lo_of, hi_of, has_of}
use Rattle.dom_cells.specs.Box.{cell_of}
use Rattle.dom_cells.specs.Flagged.{IsFloor}
use Rattle.kind_law.proofs.StepLaws.{near_low_is}
use Rattle.kind_law.proofs.steps.near_low.Goals as goal

pub overflow_cast-lo-2 : goal.overflow_cast-lo-2
overflow_cast-lo-2 c =
    let lo_fits : FitsSigned w64 c.lo-lo.result = search rules in
    let hi_fits : FitsSigned w64 c.hi-hi.result = search rules in
    let range : c.args.steps < 2 ^ 64 = search rules in
    let near = near_low_is (cell_of c.args.cells.now.state c.args.var.0) c.lo-lo.result c.hi-hi.result c.args.steps lo_fits hi_fits range c.lo-lo.ensures.lo c.hi-hi.ensures.hi (c.hi-hi.ensures.sound.cells c.args.var.0 c.requires.var) c.requires.few in
    rw near.0 near.3

pub floor-requires-clause-low : goal.floor-requires-clause-low
floor-requires-clause-low c =
    let lo_fits : FitsSigned w64 c.lo-lo.result = search rules in
    let hi_fits : FitsSigned w64 c.hi-hi.result = search rules in
    let range : c.args.steps < 2 ^ 64 = search rules in
    let near = near_low_is (cell_of c.args.cells.now.state c.args.var.0) c.lo-lo.result c.hi-hi.result c.args.steps lo_fits hi_fits range c.lo-lo.ensures.lo c.hi-hi.ensures.hi (c.hi-hi.ensures.sound.cells c.args.var.0 c.requires.var) c.requires.few in
    subst (λ (v : ℤ). lo_of (cell_of c.args.cells.now.state c.args.var.0) ≤ℤ v) (sym (ap (λ (v : ℤ). to_z w64 (of_z w64 v)) near.0 ∙ to_z-of_z w64 (lo_of (cell_of c.args.cells.now.state c.args.var.0) +ℤ pos c.args.steps) near.3)) near.1

pub floor-requires-clause-high : goal.floor-requires-clause-high
floor-requires-clause-high c =
    let lo_fits : FitsSigned w64 c.lo-lo.result = search rules in
    let hi_fits : FitsSigned w64 c.hi-hi.result = search rules in
    let range : c.args.steps < 2 ^ 64 = search rules in
    let near = near_low_is (cell_of c.args.cells.now.state c.args.var.0) c.lo-lo.result c.hi-hi.result c.args.steps lo_fits hi_fits range c.lo-lo.ensures.lo c.hi-hi.ensures.hi (c.hi-hi.ensures.sound.cells c.args.var.0 c.requires.var) c.requires.few in
    subst (λ (v : ℤ). v <ℤ hi_of (cell_of c.args.cells.now.state c.args.var.0)) (sym (ap (λ (v : ℤ). to_z w64 (of_z w64 v)) near.0 ∙ to_z-of_z w64 (lo_of (cell_of c.args.cells.now.state c.args.var.0) +ℤ pos c.args.steps) near.3)) near.2

pub returns : goal.returns
returns c =
    let lo_fits : FitsSigned w64 c.lo-lo.result = search rules in
    let hi_fits : FitsSigned w64 c.hi-hi.result = search rules in
    let range : c.args.steps < 2 ^ 64 = search rules in
    let near = near_low_is (cell_of c.args.cells.now.state c.args.var.0) c.lo-lo.result c.hi-hi.result c.args.steps lo_fits hi_fits range c.lo-lo.ensures.lo c.hi-hi.ensures.hi (c.hi-hi.ensures.sound.cells c.args.var.0 c.requires.var) c.requires.few in
    let near_fits : FitsSigned w64 c.floor.result = search rules in
    subst (IsFloor (has_of (cell_of c.args.cells.now.state c.args.var.0)) (lo_of (cell_of c.args.cells.now.state c.args.var.0) +ℤ pos c.args.steps)) (sym (to_z-of_z w64 c.floor.result near_fits))
    (subst (λ (v : ℤ). IsFloor (has_of (cell_of c.args.cells.now.state c.args.var.0)) v c.floor.result) (ap (λ (v : ℤ). to_z w64 (of_z w64 v)) near.0 ∙ to_z-of_z w64 (lo_of (cell_of c.args.cells.now.state c.args.var.0) +ℤ pos c.args.steps) near.3) c.floor.ensures)
