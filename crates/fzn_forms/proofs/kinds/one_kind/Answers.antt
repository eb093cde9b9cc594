use Rattle.fzn_forms.proofs.Single.{one_kind}
use Rattle.fzn_forms.proofs.kinds.one_kind.Goals as goal

pub returns : goal.returns
returns c = λ ds constraint j k different h g. one_kind c.one_integer.ensures c.one_list.ensures c.one_argument.ensures.scalar c.one_argument.ensures.list ds different c.one_row.ensures constraint j k h g
