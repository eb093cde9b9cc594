use Rattle.std.proofs.Common.{rules, ◌≡◌, ◌<◌, length, subst, ◌∙◌}
use Rattle.dom_cells.specs.Box.{cell_of}
use Rattle.kind_truths.specs.Connective.{connective_refuted}
use Rattle.kind_truths.specs.Plan.{IsAim, IsOpen, IsEvery}
use Rattle.kind_truths.proofs.PlanLaws.{last_end, operand_end, no_arg_end, before_last}
use Rattle.kind_truths.proofs.turns.TurnsPlaces.end_at.Goals as goal

pub returns-then-place-count : goal.returns-then-place-count
returns-then-place-count c =
    let at : c.args.place ≡ c.count.result = search rules in
    last_end c.args.self.now.parts.now (cell_of c.args.cells.now.state) c.args.place c.output_end.result (at ∙ c.count.ensures.count) c.output_end.ensures

pub returns-in-Open : goal.returns-in-Open
returns-in-Open c =
    let apart : c.args.place ≡ c.count.result → ⊥ = search rules in
    let lt : c.args.place < length c.args.self.now.parts.now.operands = before_last c.args.self.now.parts.now c.args.place c.count.result c.requires.place c.count.ensures.count apart in
    let none_ends : IsOpen c.args.self.now.parts.now (cell_of c.args.cells.now.state) = subst (IsAim c.args.self.now.parts.now (cell_of c.args.cells.now.state)) c.in-Open.is c.requires.answers.tells in
    operand_end c.args.self.now.parts.now (cell_of c.args.cells.now.state) c.args.place _ lt (no_arg_end (connective_refuted c.args.self.now.parts.now) (cell_of c.args.cells.now.state) _ (none_ends.none c.args.place lt))

pub sole_end-requires-clause-place : goal.sole_end-requires-clause-place
sole_end-requires-clause-place c =
    let apart : c.args.place ≡ c.count.result → ⊥ = search rules in
    before_last c.args.self.now.parts.now c.args.place c.count.result c.requires.place c.count.ensures.count apart

pub sole_end-requires-clause-sole : goal.sole_end-requires-clause-sole
sole_end-requires-clause-sole c = subst (IsAim c.args.self.now.parts.now (cell_of c.args.cells.now.state)) c.in-Sole.is c.requires.answers.tells

pub operand_end-requires-clause-place : goal.operand_end-requires-clause-place
operand_end-requires-clause-place c =
    let apart : c.args.place ≡ c.count.result → ⊥ = search rules in
    before_last c.args.self.now.parts.now c.args.place c.count.result c.requires.place c.count.ensures.count apart

pub operand_end-requires-clause-told : goal.operand_end-requires-clause-told
operand_end-requires-clause-told c =
    let apart : c.args.place ≡ c.count.result → ⊥ = search rules in
    let every : IsEvery c.args.self.now.parts.now (cell_of c.args.cells.now.state) = subst (IsAim c.args.self.now.parts.now (cell_of c.args.cells.now.state)) c.in-Every.is c.requires.answers.tells in
    every.all c.args.place (before_last c.args.self.now.parts.now c.args.place c.count.result c.requires.place c.count.ensures.count apart)

pub returns-in-Sole : goal.returns-in-Sole
returns-in-Sole c =
    let apart : c.args.place ≡ c.count.result → ⊥ = search rules in
    operand_end c.args.self.now.parts.now (cell_of c.args.cells.now.state) c.args.place c.sole_end.result
    (before_last c.args.self.now.parts.now c.args.place c.count.result c.requires.place c.count.ensures.count apart) c.sole_end.ensures

pub returns-in-Every : goal.returns-in-Every
returns-in-Every c =
    let apart : c.args.place ≡ c.count.result → ⊥ = search rules in
    operand_end c.args.self.now.parts.now (cell_of c.args.cells.now.state) c.args.place c.operand_end.result
    (before_last c.args.self.now.parts.now c.args.place c.count.result c.requires.place c.count.ensures.count apart) c.operand_end.ensures
