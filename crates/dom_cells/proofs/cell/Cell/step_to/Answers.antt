use Rattle.std.proofs.Common.{rules, ◌≡◌, ◌∙◌, sym, ap, FitsSigned, w64, of_z, true}
use Rattle.std.proofs.lemmas.Int.{to_z-of_z}
use Rattle.dom_cells.specs.Flagged.{holds_in}
use Rattle.dom_cells.proofs.CellLaws.{to_step}
use Rattle.dom_cells.proofs.cell.Cell.step_to.Goals as goal

pub returns : goal.returns
returns c =
    let v_fits : FitsSigned w64 c.args.literal.value = search rules in
    let has : holds_in c.args.self.now c.args.literal.value ≡ true = rw (to_z-of_z w64 c.args.literal.value v_fits) at (sym c.has.ensures ∙ c.if-not-has.false) in
    rw (to_z-of_z w64 c.args.literal.value v_fits, c.len.ensures)
    (to_step c.args.self.now c.args.literal c.requires.sound c.requires.rel has (λ e. c.if-self.false (ap (of_z w64) e)))
