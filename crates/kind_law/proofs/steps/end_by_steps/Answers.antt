use Rattle.std.proofs.Common.{sym, subst, ℕ, Option, Some, None}
use Rattle.dom_cells.specs.Box.{cell_of}
use Rattle.kind_law.specs.Steps.{GivesEnd}
use Rattle.kind_law.proofs.StepLaws.{gives_none, gives_some}
use Rattle.kind_law.proofs.steps.end_by_steps.Goals as goal

pub returns-in-None : goal.returns-in-None
returns-in-None c =
    subst (λ (s : Option ℕ). GivesEnd (cell_of c.args.cells.now.state) c.args.var c.args.side s None) (sym c.in-None.is)
    (gives_none (cell_of c.args.cells.now.state) c.args.var c.args.side (c.lo-lo.ensures.sound.cells c.args.var.0 c.requires.var))

pub returns-in-Some : goal.returns-in-Some
returns-in-Some c =
    subst (λ (s : Option ℕ). GivesEnd (cell_of c.args.cells.now.state) c.args.var c.args.side s (Some c.end_within.result)) (sym c.in-Some.is)
    (gives_some (cell_of c.args.cells.now.state) c.args.var c.args.side c.in-Some.steps c.end_within.result (c.lo-lo.ensures.sound.cells c.args.var.0 c.requires.var) c.end_within.ensures)
