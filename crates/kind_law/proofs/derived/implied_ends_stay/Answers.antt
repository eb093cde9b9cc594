use Rattle.kind_law.proofs.InsideLaws.{implied_now, refuted_now}
use Rattle.kind_law.proofs.derived.implied_ends_stay.Goals as goal

pub returns : goal.returns
returns g c = λ n small large l below s t p h. (
  implied_now (g.K.Kind.refuted c.args.kind.now) (g.K.Kind.inside c.args.kind.now) (g.K.Kind.vars c.args.kind.now) n small large l (g.met.K.Kind.shrink_law c.args.kind.now) below s t p h,
  refuted_now (g.K.Kind.refuted c.args.kind.now) (g.K.Kind.inside c.args.kind.now) (g.K.Kind.vars c.args.kind.now) n small large l (g.met.K.Kind.shrink_law c.args.kind.now) below s t p h,
)
