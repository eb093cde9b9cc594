use Rattle.fzn_check.proofs.Told.{no_different, different_told}
use Rattle.fzn_check.proofs.covers.has_different.Goals as goal

pub returns-in-None : goal.returns-in-None
returns-in-None c = no_different c.args.values.now c.args.expression.now (rw c.in-None.is at c.in_ok-ints_of.ensures.are)

pub returns-in-Some : goal.returns-in-Some
returns-in-Some c =
    different_told c.args.values.now c.args.expression.now c.in-Some.ints.items c.as_slice.result.now c.are_different.result c.as_slice.ensures.value (rw c.in-Some.is at c.in_ok-ints_of.ensures.are)
    (rw c.in-Some.is at c.in_ok-ints_of.ensures.only) c.are_different.ensures
