-- One thing more is written.
use Rattle.fzn_print.specs.Canonical.{declaration_marks}
use Rattle.fzn_print.proofs.Texts.{more_each}
use Rattle.fzn_print.proofs.declarations.write_declarations.Goals as goal

pub loop-declaration-preserved : goal.loop-declaration-preserved
loop-declaration-preserved c =
    more_each declaration_marks c.args.declarations.now c.loop-declaration.declaration-index c.declaration-item.result c.declaration-item.result c.args.out.now.items c.loop-declaration.out.items _
    c.loop-declaration-test.true c.declaration-item.is c.loop-declaration.invariant c.in_ok-write_declaration.ensures
