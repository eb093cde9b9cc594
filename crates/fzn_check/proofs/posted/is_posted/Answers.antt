use Rattle.fzn_check.proofs.posted.is_posted.Goals as goal

pub returns : goal.returns
returns c = rw c.in_ok-distinct.ensures at c.fits_row_of_name.ensures
