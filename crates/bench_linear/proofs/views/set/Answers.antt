use Rattle.bench_linear.proofs.DigitLaws.{digit_move, moved}
use Rattle.bench_linear.proofs.views.set.Goals as goal

pub returns : goal.returns
returns c =
    moved c.args.width c.args.view.now c.set.new.self c.args.at _ c.requires.view c.set.ensures
    (digit_move c.args.before c.args.after _ c.requires.before c.requires.after c.alone.ensures c.alone-2.ensures c.step.ensures)
