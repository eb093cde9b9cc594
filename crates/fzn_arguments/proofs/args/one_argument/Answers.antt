use Rattle.fzn_arguments.proofs.Single.{one_arg, one_scalar_arg, one_arg_list}
use Rattle.fzn_arguments.proofs.args.one_argument.Goals as goal

pub returns-clause-one : goal.returns-clause-one
returns-clause-one c = one_arg c.one_truth.ensures c.one_integer.ensures

pub returns-clause-scalar : goal.returns-clause-scalar
returns-clause-scalar c = one_scalar_arg c.one_truth.ensures c.one_integer.ensures

pub returns-clause-list : goal.returns-clause-list
returns-clause-list c = one_arg_list c.one_truth.ensures c.one_integer.ensures c.one_list.ensures
