-- One restriction more, and the end.
use Rattle.dom_domains.proofs.AddLaws.{all_added, next_added}
use Rattle.dom_domains.proofs.restrict.restrictions_of.Goals as goal

pub loop-number-preserved : goal.loop-number-preserved
loop-number-preserved c = record {
  added = next_added c.args.variables.now c.args.definers.now c.loop-number.number c.index-variables-number.result c.loop-number-test.true c.requires.whole c.index-variables-number.is
      c.in_ok-set.set c.args.constraints.now.items c.loop-number.constraints.items c.restrict.new.constraints.items c.in_ok-set.ensures.set c.loop-number.invariant.added c.in_ok-restrict.ensures.added;
}

pub returns-clause-added : goal.returns-clause-added
returns-clause-added c =
    all_added c.args.variables.now c.args.definers.now c.loop-number.number c.args.constraints.now.items c.loop-number.constraints.items c.loop-number-test.false c.loop-number.invariant.added
