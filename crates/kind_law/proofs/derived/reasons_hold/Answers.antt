use Rattle.kind_law.proofs.ValidLaws.{reason_holds}
use Rattle.kind_law.proofs.derived.reasons_hold.Goals as goal

pub returns : goal.returns
returns g c = λ m implied ls sane reason.
    reason_holds (g.K.Kind.refuted c.args.kind.now) (g.K.Kind.inside c.args.kind.now) (g.K.Kind.vars c.args.kind.now) (g.K.Kind.met c.args.kind.now) m implied ls
    (g.met.K.Kind.shrink_law c.args.kind.now) (g.met.K.Kind.fixed_law c.args.kind.now) sane reason
