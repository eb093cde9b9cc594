use Rattle.std.proofs.Common.{List, subst}
use Rattle.chains.specs.declared.link.Link.{Link}
use Rattle.chains.specs.Chains.{AreEnds}
use Rattle.fzn_values.proofs.Chained.{literals_are}
use Rattle.fzn_values.proofs.constants.literals_of.Goals as goal

pub returns-clause-are : goal.returns-clause-are
returns-clause-are c =
    literals_are c.args.scope.now c.args.literal c.in_ok-links.links.items c.in_ok-links.ensures.are c.in_ok-links.ensures.different c.in_ok-ends.ends
    (subst (λ (links : List Link). AreEnds links c.in_ok-ends.ends) c.as_slice.ensures.value c.in_ok-ends.ensures)
