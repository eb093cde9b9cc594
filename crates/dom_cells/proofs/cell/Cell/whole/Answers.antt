use Rattle.std.proofs.Common.{rules, ◌≡◌, ◌∙◌, ap, ℕ, FitsSigned, w64, true}
use Rattle.std.proofs.lemmas.Int.{to_z-of_z}
use Rattle.dom_cells.proofs.CellLaws.{whole_cell, sane_start}
use Rattle.std.proofs.Common.{replicate}
use Rattle.dom_cells.proofs.cell.Cell.whole.Goals as goal

pub returns-clause-whole : goal.returns-clause-whole
returns-clause-whole c =
    let lo_fits : FitsSigned w64 c.lo-lo.result = search rules in
    let hi_fits : FitsSigned w64 c.hi-hi.result = search rules in
    let up : c.in_ok-flags.flags ≡ replicate c.flag_count.result true = c.in_ok-flags.ensures in
    rw (to_z-of_z w64 c.lo-lo.result lo_fits, to_z-of_z w64 c.hi-hi.result hi_fits)
    (whole_cell c.args.start c.lo-lo.result c.hi-hi.result c.in_ok-flags.flags
    (sane_start c.args.start c.requires c.flag_count.ensures.domain) c.flag_count.ensures.domain c.lo-lo.ensures c.hi-hi.ensures
    (up ∙ ap (λ (n : ℕ). replicate n true) c.flag_count.ensures.count))
