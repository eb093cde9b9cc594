use Rattle.std.proofs.Common.{rules, ◌≡◌, ◌∙◌, ◌≤ℤ◌, arith, FitsSigned, w64}
use Rattle.std.proofs.lemmas.Int.{ints, to_z-of_z}
use Rattle.dom_cells.specs.Cell.{hi_of}
use Rattle.dom_cells.specs.Box.{cell_of}
use Rattle.dom_cells.proofs.KeptLaws.{kept-hi_ge, kept-hi_within, kept-hi_floor, kept-above_lo}
use Rattle.dom_cells.proofs.kept.KeptRegion.hi.Goals as goal

pub returns-then-hi-value : goal.returns-then-hi-value
returns-then-hi-value c =
    let fits : FitsSigned w64 c.hi-hi.result = search rules in
    let v_fits : FitsSigned w64 c.args.self.now.literal.value = search rules in
    let at : c.args.self.now.literal.var.0 ≡ c.args.var.0 = omega arith in
    let high : hi_of (cell_of c.args.self.now.cells.now.state c.args.var.0) ≤ℤ c.args.self.now.literal.value = rw (← c.hi-hi.ensures.hi) (omega (arith, ints)) in
    rw (to_z-of_z w64 c.hi-hi.result fits) (c.hi-hi.ensures.hi ∙ kept-hi_within c.args.var.0 (cell_of c.args.self.now.cells.now.state c.args.var.0) c.args.self.now.literal c.args.self.now.end at c.in-Le.is high (c.hi-hi.ensures.sound.cells c.args.var.0 c.requires.below) c.requires.sane)

pub floor-requires-clause-low : goal.floor-requires-clause-low
floor-requires-clause-low c =
    let v_fits : FitsSigned w64 c.args.self.now.literal.value = search rules in
    let at : c.args.self.now.literal.var.0 ≡ c.args.var.0 = omega arith in
    rw (to_z-of_z w64 c.args.self.now.literal.value v_fits) (kept-above_lo c.args.var.0 (cell_of c.args.self.now.cells.now.state c.args.var.0) c.args.self.now.literal c.args.self.now.end at c.in-Le.is (c.hi-hi.ensures.sound.cells c.args.var.0 c.requires.below) c.requires.sane)

pub returns-else-hi-value : goal.returns-else-hi-value
returns-else-hi-value c =
    let fits : FitsSigned w64 c.floor.result = search rules in
    let v_fits : FitsSigned w64 c.args.self.now.literal.value = search rules in
    let at : c.args.self.now.literal.var.0 ≡ c.args.var.0 = omega arith in
    rw (to_z-of_z w64 c.floor.result fits)
    (kept-hi_floor c.args.var.0 (cell_of c.args.self.now.cells.now.state c.args.var.0) c.args.self.now.literal c.args.self.now.end at c.in-Le.is c.floor.result (rw (to_z-of_z w64 c.args.self.now.literal.value v_fits) at c.floor.ensures) c.requires.sane)

pub returns-in_default : goal.returns-in_default
returns-in_default c =
    let fits : FitsSigned w64 c.hi-hi.result = search rules in
    let at : c.args.self.now.literal.var.0 ≡ c.args.var.0 = omega arith in
    rw (to_z-of_z w64 c.hi-hi.result fits) (c.hi-hi.ensures.hi ∙ kept-hi_ge c.args.var.0 (cell_of c.args.self.now.cells.now.state c.args.var.0) c.args.self.now.literal c.args.self.now.end at c.in_default.not-Le (c.hi-hi.ensures.sound.cells c.args.var.0 c.requires.below) c.requires.sane)
