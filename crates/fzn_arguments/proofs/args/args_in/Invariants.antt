-- The literals and names so far stand for the arguments so far.
use Rattle.std.proofs.Common.{take}
use Rattle.fzn_arguments.specs.Arguments.{AreArgs}
use Rattle.fzn_arguments.proofs.args.args_in.Given as goal

abbrev pub invariant-loop-basic : goal.invariant-loop-basic
invariant-loop-basic l = AreArgs l.values l.form (take l.basic-index l.basics) l.args.items
