use Rattle.std.proofs.Common.{rules, ◌∙◌, sym, ◌<◌, ◌≤◌, length}
use Rattle.dom_cells.specs.Box.{cell_of}
use Rattle.dom_core.specs.declared.arg.Arg.{Arg}
use Rattle.dom_core.specs.declared.arg.Arg.TheVariants.{Var}
use Rattle.kind_parts.proofs.WalkLaws.{found_here, none_here, none_at_all}
use Rattle.kind_parts.proofs.walk.first_in_turn.Goals as goal

-- what reads beyond the arguments would give
abbrev none : Arg
none = Var (record { 0 = 0 })

pub returns-then-is_some : goal.returns-then-is_some
returns-then-is_some g c =
    let lt : c.loop-at.at < length (g.P.Places.args c.args.places.now) = search rules in
    found_here (g.P.Places.refuted c.args.places.now) (g.P.Places.args c.args.places.now) (cell_of c.args.cells.now.state) c.loop-at.at none c.end_at-end.result lt c.requires.single
    (sym c.is_some.ensures ∙ c.if-is_some.true) c.loop-at.invariant c.end_at-end.ensures

pub loop-at-preserved : goal.loop-at-preserved
loop-at-preserved g c =
    let lt : c.loop-at.at < length (g.P.Places.args c.args.places.now) = search rules in
    none_here (g.P.Places.refuted c.args.places.now) (g.P.Places.args c.args.places.now) (cell_of c.args.cells.now.state) c.loop-at.at none c.end_at-end.result lt
    (sym c.is_some.ensures ∙ c.if-is_some.false) c.loop-at.invariant c.end_at-end.ensures

pub returns : goal.returns
returns g c =
    let done : length (g.P.Places.args c.args.places.now) ≤ c.loop-at.at = search rules in
    none_at_all (g.P.Places.refuted c.args.places.now) (g.P.Places.args c.args.places.now) (cell_of c.args.cells.now.state) c.loop-at.at done c.requires.single c.loop-at.invariant
