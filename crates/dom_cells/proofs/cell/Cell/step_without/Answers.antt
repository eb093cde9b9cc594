use Rattle.std.proofs.Common.{rules, ◌≡◌, ◌∙◌, sym, ap, ◌≤ℤ◌, ◌+ℤ◌, ◌-ℤ◌, pos, arith, FitsSigned, w64, to_z, of_z, true}
use Rattle.std.proofs.lemmas.Int.{ints, to_z-of_z}
use Rattle.dom_cells.specs.Flagged.{holds_in}
use Rattle.dom_cells.proofs.CellLaws.{low_step, high_step, hole_step, sound_ends}
use Rattle.dom_core.proofs.RisesLaws.{same_bits}
use Rattle.dom_cells.proofs.cell.Cell.step_without.Goals as goal

pub returns-then-value-self : goal.returns-then-value-self
returns-then-value-self c =
    let lo_fits : FitsSigned w64 c.args.self.now.lo = search rules in
    let hi_fits : FitsSigned w64 c.args.self.now.hi = search rules in
    let v_fits : FitsSigned w64 c.args.literal.value = search rules in
    let r_fits : FitsSigned w64 c.ceiling-lo.result = search rules in
    let same : c.args.literal.value ≡ c.args.self.now.lo = same_bits c.args.literal.value c.args.self.now.lo v_fits lo_fits c.if-value-self.true in
    let apart : c.args.self.now.lo ≡ c.args.self.now.hi → ⊥ = λ e. c.if-self.false (ap (of_z w64) e) in
    let ends : c.args.self.now.lo ≤ℤ c.args.self.now.hi = sound_ends c.args.self.now c.requires.sound in
    let e : to_z w64 (of_z w64 (to_z w64 (of_z w64 c.args.literal.value) +ℤ pos 1)) ≡ (c.args.literal.value +ℤ pos 1) = omega (arith, ints) in
    rw (to_z-of_z w64 c.args.self.now.hi hi_fits, to_z-of_z w64 c.ceiling-lo.result r_fits, c.len.ensures)
    (low_step c.args.self.now c.args.literal c.ceiling-lo.result c.requires.sound c.requires.rel same apart (rw e at c.ceiling-lo.ensures))

pub returns-then-value-self-2 : goal.returns-then-value-self-2
returns-then-value-self-2 c =
    let lo_fits : FitsSigned w64 c.args.self.now.lo = search rules in
    let hi_fits : FitsSigned w64 c.args.self.now.hi = search rules in
    let v_fits : FitsSigned w64 c.args.literal.value = search rules in
    let r_fits : FitsSigned w64 c.floor-hi.result = search rules in
    let same : c.args.literal.value ≡ c.args.self.now.hi = same_bits c.args.literal.value c.args.self.now.hi v_fits hi_fits c.if-value-self-2.true in
    let apart : c.args.self.now.lo ≡ c.args.self.now.hi → ⊥ = λ e. c.if-self.false (ap (of_z w64) e) in
    let ends : c.args.self.now.lo ≤ℤ c.args.self.now.hi = sound_ends c.args.self.now c.requires.sound in
    let e : to_z w64 (of_z w64 (to_z w64 (of_z w64 c.args.literal.value) -ℤ pos 1)) ≡ (c.args.literal.value -ℤ pos 1) = omega (arith, ints) in
    rw (to_z-of_z w64 c.args.self.now.lo lo_fits, to_z-of_z w64 c.floor-hi.result r_fits, c.len-then-value-self-2.ensures)
    (high_step c.args.self.now c.args.literal c.floor-hi.result c.requires.sound c.requires.rel same apart (rw e at c.floor-hi.ensures))

pub returns : goal.returns
returns c =
    let lo_fits : FitsSigned w64 c.args.self.now.lo = search rules in
    let hi_fits : FitsSigned w64 c.args.self.now.hi = search rules in
    let v_fits : FitsSigned w64 c.args.literal.value = search rules in
    let has : holds_in c.args.self.now c.args.literal.value ≡ true =
    rw (to_z-of_z w64 c.args.literal.value v_fits) at (sym c.has.ensures ∙ c.if-not-has.false) in
    rw (to_z-of_z w64 c.args.self.now.lo lo_fits, to_z-of_z w64 c.args.self.now.hi hi_fits)
    (hole_step c.args.self.now c.args.literal c.place.result c.requires.sound c.requires.rel has
    (λ e. c.if-value-self.false (ap (of_z w64) e)) (λ e. c.if-value-self-2.false (ap (of_z w64) e))
    (rw (to_z-of_z w64 c.args.literal.value v_fits) at c.place.ensures))
