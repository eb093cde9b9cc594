use Rattle.std.proofs.Common.{rules, ◌∙◌, sym, ap, subst, ◌-ℤ◌, ◌<ℤ◌, ◌≤ℤ◌, ◌<◌, ◌^◌, ℤ, pos, FitsSigned, w64, to_z, of_z}
use Rattle.std.proofs.lemmas.Int.{to_z-of_z}
use Rattle.dom_cells.specs.Cell.{lo_of, hi_of, has_of}
use Rattle.dom_cells.specs.Box.{cell_of}
use Rattle.dom_cells.specs.Flagged.{IsCeiling}
use Rattle.kind_law.proofs.StepLaws.{near_high_is}
use Rattle.kind_law.proofs.steps.near_high.Goals as goal

pub overflow_cast-hi-2 : goal.overflow_cast-hi-2
overflow_cast-hi-2 c =
    let lo_fits : FitsSigned w64 c.lo-lo.result = search rules in
    let hi_fits : FitsSigned w64 c.hi-hi.result = search rules in
    let range : c.args.steps < 2 ^ 64 = search rules in
    let near = near_high_is (cell_of c.args.cells.now.state c.args.var.0) c.lo-lo.result c.hi-hi.result c.args.steps lo_fits hi_fits range c.lo-lo.ensures.lo c.hi-hi.ensures.hi (c.hi-hi.ensures.sound.cells c.args.var.0 c.requires.var) c.requires.few in
    rw near.0 near.3

pub ceiling-requires-clause-low : goal.ceiling-requires-clause-low
ceiling-requires-clause-low c =
    let lo_fits : FitsSigned w64 c.lo-lo.result = search rules in
    let hi_fits : FitsSigned w64 c.hi-hi.result = search rules in
    let range : c.args.steps < 2 ^ 64 = search rules in
    let near = near_high_is (cell_of c.args.cells.now.state c.args.var.0) c.lo-lo.result c.hi-hi.result c.args.steps lo_fits hi_fits range c.lo-lo.ensures.lo c.hi-hi.ensures.hi (c.hi-hi.ensures.sound.cells c.args.var.0 c.requires.var) c.requires.few in
    subst (λ (v : ℤ). lo_of (cell_of c.args.cells.now.state c.args.var.0) <ℤ v) (sym (ap (λ (v : ℤ). to_z w64 (of_z w64 v)) near.0 ∙ to_z-of_z w64 (hi_of (cell_of c.args.cells.now.state c.args.var.0) -ℤ pos c.args.steps) near.3)) near.1

pub ceiling-requires-clause-high : goal.ceiling-requires-clause-high
ceiling-requires-clause-high c =
    let lo_fits : FitsSigned w64 c.lo-lo.result = search rules in
    let hi_fits : FitsSigned w64 c.hi-hi.result = search rules in
    let range : c.args.steps < 2 ^ 64 = search rules in
    let near = near_high_is (cell_of c.args.cells.now.state c.args.var.0) c.lo-lo.result c.hi-hi.result c.args.steps lo_fits hi_fits range c.lo-lo.ensures.lo c.hi-hi.ensures.hi (c.hi-hi.ensures.sound.cells c.args.var.0 c.requires.var) c.requires.few in
    subst (λ (v : ℤ). v ≤ℤ hi_of (cell_of c.args.cells.now.state c.args.var.0)) (sym (ap (λ (v : ℤ). to_z w64 (of_z w64 v)) near.0 ∙ to_z-of_z w64 (hi_of (cell_of c.args.cells.now.state c.args.var.0) -ℤ pos c.args.steps) near.3)) near.2

pub returns : goal.returns
returns c =
    let lo_fits : FitsSigned w64 c.lo-lo.result = search rules in
    let hi_fits : FitsSigned w64 c.hi-hi.result = search rules in
    let range : c.args.steps < 2 ^ 64 = search rules in
    let near = near_high_is (cell_of c.args.cells.now.state c.args.var.0) c.lo-lo.result c.hi-hi.result c.args.steps lo_fits hi_fits range c.lo-lo.ensures.lo c.hi-hi.ensures.hi (c.hi-hi.ensures.sound.cells c.args.var.0 c.requires.var) c.requires.few in
    let near_fits : FitsSigned w64 c.ceiling.result = search rules in
    subst (IsCeiling (has_of (cell_of c.args.cells.now.state c.args.var.0)) (hi_of (cell_of c.args.cells.now.state c.args.var.0) -ℤ pos c.args.steps)) (sym (to_z-of_z w64 c.ceiling.result near_fits))
    (subst (λ (v : ℤ). IsCeiling (has_of (cell_of c.args.cells.now.state c.args.var.0)) v c.ceiling.result) (ap (λ (v : ℤ). to_z w64 (of_z w64 v)) near.0 ∙ to_z-of_z w64 (hi_of (cell_of c.args.cells.now.state c.args.var.0) -ℤ pos c.args.steps) near.3) c.ceiling.ensures)
