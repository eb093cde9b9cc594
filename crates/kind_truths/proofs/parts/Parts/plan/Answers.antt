use Rattle.std.proofs.Common.{rules, ◌≡◌, false, not}
use Rattle.dom_cells.specs.Box.{cell_of}
use Rattle.kind_truths.specs.Operand.{is_certain}
use Rattle.kind_law.specs.Argument.{arg_ends}
use Rattle.kind_law.specs.Laws.{hulls}
use Rattle.kind_truths.proofs.PlanLaws.{undecided_plan}
use Rattle.kind_truths.proofs.parts.Parts.plan.Goals as goal

pub returns-then-not-is_certain : goal.returns-then-not-is_certain
returns-then-not-is_certain c =
    let one : is_certain c.args.self.now.flipped (arg_ends (hulls (cell_of c.args.cells.now.state)) c.args.self.now.output) ≡ false = search rules in
    let other : is_certain (not c.args.self.now.flipped) (arg_ends (hulls (cell_of c.args.cells.now.state)) c.args.self.now.output) ≡ false = search rules in
    undecided_plan c.args.self.now (cell_of c.args.cells.now.state) c.requires.single c.args.self.now.flipped one other
