-- The listed values rise.
use Rattle.std.proofs.Common.{◌∙◌, subst, sym}
use Rattle.dom_core.specs.Rises.{Rises}
use Rattle.dom_domains.proofs.RisingLaws.{rising_rises}
use Rattle.dom_domains.proofs.restrict.integer_set.Goals as goal

pub returns-in_ok-sorted-in-Values-clause-sorted : goal.returns-in_ok-sorted-in-Values-clause-sorted
returns-in_ok-sorted-in-Values-clause-sorted c = subst Rises (sym (c.from_vec.ensures ∙ c.in_ok-sorted-in-Values.ensures)) (rising_rises c.as_slice.result.now)
