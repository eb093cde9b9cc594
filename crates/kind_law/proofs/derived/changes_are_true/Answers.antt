use Rattle.kind_law.proofs.ChangeLaws.{change_changed, rest_changed, true_changed}
use Rattle.kind_law.proofs.derived.changes_are_true.Goals as goal

pub returns-clause-between : goal.returns-clause-between
returns-clause-between g c =
    true_changed (g.K.Define.inputs c.args.kind.now) (g.K.Define.given c.args.kind.now) (g.K.Define.ranged c.args.kind.now) (g.K.Define.own_change c.args.kind.now)
    (g.met.K.Define.range_law c.args.kind.now)

pub returns-clause-rest : goal.returns-clause-rest
returns-clause-rest g c = rest_changed (g.K.Define.inputs c.args.kind.now) (g.K.Define.ranged c.args.kind.now) (g.K.Define.own_change c.args.kind.now)

pub returns-clause-holds : goal.returns-clause-holds
returns-clause-holds g c =
    change_changed (g.K.Define.inputs c.args.kind.now) (g.K.Define.given c.args.kind.now) (g.K.Define.ranged c.args.kind.now) (g.K.Define.own_change c.args.kind.now)
    (g.met.K.Define.input_law c.args.kind.now) (g.met.K.Define.range_law c.args.kind.now) (g.met.K.Define.own_change_law c.args.kind.now)
