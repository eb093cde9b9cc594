use Rattle.std.proofs.Common.{rules, sym, subst, ◌+◌, ◌<◌, ◌≤◌, List, [], take, length}
use Rattle.dom_cells.specs.Box.{cell_of}
use Rattle.dom_cells.specs.Cell.{IsSane}
use Rattle.dom_core.specs.declared.arg.Arg.{Arg}
use Rattle.dom_core.specs.declared.arg.Arg.TheVariants.{Var}
use Rattle.dom_core.specs.declared.literal.Literal.{Literal}
use Rattle.kind_law.specs.Argument.{distinct}
use Rattle.kind_law.specs.Laws.{Each}
use Rattle.kind_law.specs.Visit.{AreEnds}
use Rattle.kind_law.proofs.ArgumentLaws.{each_listed}
use Rattle.kind_law.proofs.BoundLaws.{box-sane}
use Rattle.kind_law.proofs.VisitLaws.{no_ends}
use Rattle.kind_parts.specs.Told.{IsTold}
use Rattle.kind_parts.specs.Vars.{variables_of}
use Rattle.kind_parts.proofs.ToldLaws.{told_here, told_done}
use Rattle.kind_parts.proofs.WalkLaws.{at_place, ends_here, ends_done}
use Rattle.kind_parts.proofs.walk.write_ends_in_turn.Goals as goal

-- what reads beyond the arguments would give
abbrev none : Arg
none = Var (record { 0 = 0 })

pub loop-at-init : goal.loop-at-init
loop-at-init g c = record {
  ends = no_ends (g.P.Places.refuted c.args.places.now) [] (cell_of c.args.cells.now.state) (length c.args.cells.now.state.starts) c.args.ends.now c.requires.empty;
  told = tt;
}

pub loop-at-preserved : goal.loop-at-preserved
loop-at-preserved g c =
    let lt : c.loop-at.at < length (g.P.Places.args c.args.places.now) = search rules in
    record {
      ends = subst (AreEnds (g.P.Places.refuted c.args.places.now) (variables_of (take (c.loop-at.at + 1) (g.P.Places.args c.args.places.now))) (cell_of c.args.cells.now.state) (length c.args.cells.now.state.starts))
          (sym c.in_ok-add_implied.ensures)
          (ends_here (g.P.Places.refuted c.args.places.now) (g.P.Places.args c.args.places.now) (cell_of c.args.cells.now.state) c.loop-at.at (length c.args.cells.now.state.starts) none c.loop-at.ends c.end_at-end.result lt
          c.loop-at.invariant.ends
          (at_place (λ u. u.0 < length c.args.cells.now.state.starts) (g.P.Places.args c.args.places.now) c.loop-at.at none lt
          (each_listed (λ u. u.0 < length c.args.cells.now.state.starts) (variables_of (g.P.Places.args c.args.places.now)) c.requires.below))
          (at_place (λ u. IsSane (cell_of c.args.cells.now.state u.0)) (g.P.Places.args c.args.places.now) c.loop-at.at none lt
          (each_listed (λ u. IsSane (cell_of c.args.cells.now.state u.0)) (variables_of (g.P.Places.args c.args.places.now))
          (box-sane c.args.cells.now.state (distinct (variables_of (g.P.Places.args c.args.places.now))) c.width-width.ensures.sound c.requires.below)))
          c.end_at-end.ensures);
      told = subst (λ (ls : List Literal). Each (IsTold (g.P.Places.refuted c.args.places.now) (cell_of c.args.cells.now.state) ls) (variables_of (take (c.loop-at.at + 1) (g.P.Places.args c.args.places.now))))
          (sym c.in_ok-add_implied.ensures)
          (told_here (g.P.Places.refuted c.args.places.now) (g.P.Places.args c.args.places.now) (cell_of c.args.cells.now.state) c.loop-at.at none c.loop-at.ends c.end_at-end.result lt
          c.loop-at.invariant.told c.end_at-end.ensures);
    }

pub returns : goal.returns
returns g c =
    let done : length (g.P.Places.args c.args.places.now) ≤ c.loop-at.at = search rules in
    record {
      ends = ends_done (g.P.Places.refuted c.args.places.now) (g.P.Places.args c.args.places.now) (cell_of c.args.cells.now.state) c.loop-at.at (length c.args.cells.now.state.starts) c.loop-at.ends done c.requires.single c.loop-at.invariant.ends;
      told = told_done (g.P.Places.refuted c.args.places.now) (g.P.Places.args c.args.places.now) (cell_of c.args.cells.now.state) c.loop-at.at c.loop-at.ends done c.requires.single c.loop-at.invariant.told;
    }
