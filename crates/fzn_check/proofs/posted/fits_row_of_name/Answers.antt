use Rattle.fzn_signatures.specs.Rows.{entry_of}
use Rattle.fzn_check.proofs.Told.{unlisted, told_by_row}
use Rattle.fzn_check.proofs.posted.fits_row_of_name.Goals as goal

pub returns-in-None : goal.returns-in-None
returns-in-None c = unlisted c.args.distinct.now c.args.constraint.now c.as_bytes.result.now c.as_bytes.ensures c.in-None.ensures

pub returns-in-Some : goal.returns-in-Some
returns-in-Some c =
    told_by_row c.args.distinct.now c.args.constraint.now c.as_bytes.result.now c.as_bytes.ensures (entry_of c.in-Some.row.now) c.as_slice.result.now c.fits_row.result c.as_slice.ensures c.one_row.ensures c.in-Some.ensures
    c.fits_row.ensures
