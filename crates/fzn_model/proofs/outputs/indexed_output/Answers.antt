use Rattle.fzn_model.proofs.Printing.{unlisted_none}
use Rattle.fzn_model.proofs.outputs.indexed_output.Goals as goal

pub returns-in-None : goal.returns-in-None
returns-in-None c =
    unlisted_none c.args.values.now c.args.array.now c.args.sets
    (rw (← c.form_of-form.ensures) (rw c.in-None.is at c.in_ok-args_of.ensures))
