use Rattle.kind_law.proofs.InsideLaws.{agree_refuted, same_none}
use Rattle.kind_law.proofs.derived.looks_at_its_variables.Goals as goal

pub returns : goal.returns
returns g c = λ a b sane agree. (
  agree_refuted (g.K.Kind.refuted c.args.kind.now) (g.K.Kind.inside c.args.kind.now) (g.K.Kind.vars c.args.kind.now) a b (g.met.K.Kind.shrink_law c.args.kind.now) sane agree,
  same_none (g.K.Kind.refuted c.args.kind.now) (g.K.Kind.inside c.args.kind.now) (g.K.Kind.vars c.args.kind.now) a b (g.met.K.Kind.shrink_law c.args.kind.now) sane agree,
)
