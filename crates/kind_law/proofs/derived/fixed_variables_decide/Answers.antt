use Rattle.kind_law.proofs.ValidLaws.{all_fixed}
use Rattle.kind_law.proofs.derived.fixed_variables_decide.Goals as goal

pub returns : goal.returns
returns g c = λ b a sane fixed.
    all_fixed (g.K.Kind.inside c.args.kind.now) (g.K.Kind.vars c.args.kind.now) (g.K.Kind.refuted c.args.kind.now) (g.K.Kind.met c.args.kind.now) b a
    (g.met.K.Kind.shrink_law c.args.kind.now) (g.met.K.Kind.fixed_law c.args.kind.now) sane fixed
