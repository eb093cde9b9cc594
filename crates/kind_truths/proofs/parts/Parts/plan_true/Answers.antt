use Rattle.std.proofs.Common.{rules, ◌<◌, ◌≤◌, ap, sym, subst, length, List}
use Rattle.dom_cells.specs.Box.{cell_of}
use Rattle.dom_cells.specs.Cell.{IsSane}
use Rattle.kind_law.specs.Laws.{Each}
use Rattle.kind_law.proofs.ArgumentLaws.{each_new_arg}
use Rattle.kind_law.proofs.BoundLaws.{box-sane}
use Rattle.kind_truths.specs.Connective.{Connective, connective_inputs, connective_vars}
use Rattle.kind_truths.specs.Operand.{operand_vars}
use Rattle.kind_truths.specs.declared.operand.Operand.{Operand}
use Rattle.kind_truths.proofs.PlanLaws.{all_refuted_of, two_plan_of, sole_plan_of}
use Rattle.kind_truths.proofs.parts.Parts.plan_true.Goals as goal

pub returns-then-first-count : goal.returns-then-first-count
returns-then-first-count c =
    let end : length c.self.inside.operands.now ≤ c.first_left-first.result = search rules in
    all_refuted_of c.args.self.now (cell_of c.args.cells.now.state) c.self.inside.operands.now (ap (λ (k : Connective). k.operands) c.self.view_is) c.requires.asks c.first_left-first.result end c.first_left-first.ensures

pub first_left-requires-clause-below : goal.first_left-requires-clause-below
first_left-requires-clause-below c =
    subst (λ (os : List Operand). Each (λ u. u.0 < length c.args.cells.now.state.starts) (operand_vars os)) (sym (ap (λ (k : Connective). k.operands) c.self.view_is))
    (each_new_arg (λ u. u.0 < length c.args.cells.now.state.starts) (connective_inputs c.args.self.now) c.args.self.now.output c.requires.below).0

pub first_left-requires-clause-ready : goal.first_left-requires-clause-ready
first_left-requires-clause-ready c =
    subst (λ (os : List Operand). Each (λ u. IsSane (cell_of c.args.cells.now.state u.0)) (operand_vars os)) (sym (ap (λ (k : Connective). k.operands) c.self.view_is))
    (each_new_arg (λ u. IsSane (cell_of c.args.cells.now.state u.0)) (connective_inputs c.args.self.now) c.args.self.now.output
    (box-sane c.args.cells.now.state (connective_vars c.args.self.now) c.width-width.ensures.sound c.requires.below)).0

pub rest-requires-clause-open : goal.rest-requires-clause-open
rest-requires-clause-open c =
    let less : c.first_left-first.result < c.first_left.result = search rules in
    let lt : c.first_left.result < length c.self.inside.operands.now = search rules in
    two_plan_of c.args.self.now (cell_of c.args.cells.now.state) c.self.inside.operands.now (ap (λ (k : Connective). k.operands) c.self.view_is) c.requires.single c.requires.asks
    c.first_left-first.result c.first_left.result less lt c.first_left-first.ensures c.first_left.ensures

pub returns : goal.returns
returns c =
    let lt : c.first_left-first.result < length c.self.inside.operands.now = search rules in
    let end : length c.self.inside.operands.now ≤ c.first_left.result = search rules in
    sole_plan_of c.args.self.now (cell_of c.args.cells.now.state) c.self.inside.operands.now (ap (λ (k : Connective). k.operands) c.self.view_is) c.requires.single c.requires.asks
    c.first_left-first.result c.first_left.result lt end c.first_left-first.ensures c.first_left.ensures
