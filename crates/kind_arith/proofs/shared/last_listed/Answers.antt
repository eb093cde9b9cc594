use Rattle.std.proofs.Common.{rules, ◌≡◌, true, sym, ◌∙◌, ◌-◌, get_or, pos, arith, FitsSigned, w64}
use Rattle.std.proofs.lemmas.Int.{to_z-of_z}
use Rattle.dom_cells.specs.Box.{cell_of}
use Rattle.dom_cells.specs.Cell.{has_of}
use Rattle.kind_arith.proofs.SharedLaws.{last_is_greatest, none_listed}
use Rattle.kind_arith.proofs.shared.last_listed.Goals as goal

pub returns-then-has : goal.returns-then-has
returns-then-has c =
    let fits : FitsSigned w64 (get_or c.args.values.now (c.loop-behind.behind - 1) (pos 0)) = search rules in
    let here : has_of (cell_of c.args.cells.now.state c.args.var.0) (get_or c.args.values.now (c.loop-behind.behind - 1) (pos 0)) ≡ true =
    rw (to_z-of_z w64 (get_or c.args.values.now (c.loop-behind.behind - 1) (pos 0)) fits) at (sym c.has.ensures ∙ c.if-has.true) in
    rw (to_z-of_z w64 (get_or c.args.values.now (c.loop-behind.behind - 1) (pos 0)) fits)
    (last_is_greatest c.args.values.now (cell_of c.args.cells.now.state c.args.var.0) (c.loop-behind.behind - 1) c.requires.rises
    (omega (arith, c.loop-behind.invariant.within, c.loop-behind-test.true)) (λ k from to. c.loop-behind.invariant.none k (omega (arith, from)) to) here)

pub returns : goal.returns
returns c =
    none_listed c.args.values.now (cell_of c.args.cells.now.state c.args.var.0)
    (λ k from to. c.loop-behind.invariant.none k (omega (arith, c.loop-behind-test.false)) to)
