-- One thing more is written.
use Rattle.fzn_print.specs.Canonical.{constraint_marks}
use Rattle.fzn_print.proofs.Texts.{more_each}
use Rattle.fzn_print.proofs.constraints.write_constraints.Goals as goal

pub loop-constraint-preserved : goal.loop-constraint-preserved
loop-constraint-preserved c =
    more_each constraint_marks c.args.constraints.now c.loop-constraint.constraint-index c.constraint-item.result c.constraint-item.result c.args.out.now.items c.loop-constraint.out.items _
    c.loop-constraint-test.true c.constraint-item.is c.loop-constraint.invariant c.in_ok-write_constraint.ensures
