use Rattle.std.proofs.Common.{length}
use Rattle.dom_cells.specs.Box.{cell_of}
use Rattle.kind_law.proofs.BoundLaws.{box-sane, kept-all-sane, kept-fits}
use Rattle.kind_law.proofs.probe.WholeProbe.is_refuted_within.Goals as goal

pub refutes_in-requires-clause-sane : goal.refutes_in-requires-clause-sane
refutes_in-requires-clause-sane g c =
    kept-all-sane (cell_of c.args.cells.now.state) (g.K.Kind.vars c.args.self.now.0.now) (length c.args.cells.now.state.starts) c.args.literal c.requires.bound
    (box-sane c.args.cells.now.state (g.K.Kind.vars c.args.self.now.0.now) c.requires.sound c.requires.bound.below)

pub refutes_in-requires-clause-fits : goal.refutes_in-requires-clause-fits
refutes_in-requires-clause-fits g c =
    kept-fits (cell_of c.args.cells.now.state) (g.K.Kind.vars c.args.self.now.0.now) (length c.args.cells.now.state.starts) c.args.literal (g.K.Kind.fits c.args.self.now.0.now)
    (g.met.K.Kind.fits_law c.args.self.now.0.now) c.requires.bound
    (box-sane c.args.cells.now.state (g.K.Kind.vars c.args.self.now.0.now) c.requires.sound c.requires.bound.below) c.requires.answers
