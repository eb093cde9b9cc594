use Rattle.kind_law.proofs.ReasonLaws.{reason_is, fine-from}
use Rattle.kind_law.proofs.reason.reason_of.Goals as goal

pub returns : goal.returns
returns g c =
    reason_is (g.K.Kind.inside c.args.kind.now) (g.K.Kind.vars c.args.kind.now) (g.K.Kind.refuted c.args.kind.now) c.args.cells.now.state c.args.implied
    c.explain_all.new.out c.add_implied.new.out (g.met.K.Kind.shrink_law c.args.kind.now) c.width-width.ensures.sound c.requires.below c.requires.cause c.requires.var
    (fine-from c.args.cells.now.state c.args.out.now c.explain_all.new.out c.requires.empty c.in_ok-explain_all.ensures.fine) c.in_ok-explain_all.ensures.covers c.in_ok-add_implied.ensures
