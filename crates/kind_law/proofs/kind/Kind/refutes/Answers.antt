use Rattle.std.proofs.Common.{◌∙◌, sym}
use Rattle.dom_cells.specs.Box.{cell_of}
use Rattle.kind_law.proofs.BoundLaws.{never_met, box-sane}
use Rattle.kind_law.proofs.kind.Kind.refutes.Goals as goal

pub returns-clause-none : goal.returns-clause-none
returns-clause-none g c = λ yes.
    never_met (g.Self.Kind.inside c.args.self.now) (g.Self.Kind.vars c.args.self.now) (g.Self.Kind.met c.args.self.now) (g.Self.Kind.refuted c.args.self.now)
    (cell_of c.args.cells.now.state) (g.met.Self.Kind.shrink_law c.args.self.now) (g.met.Self.Kind.fixed_law c.args.self.now)
    (box-sane c.args.cells.now.state (g.Self.Kind.vars c.args.self.now) c.width-width.ensures.sound c.requires.below) (sym c.refutes_in.ensures ∙ yes)
