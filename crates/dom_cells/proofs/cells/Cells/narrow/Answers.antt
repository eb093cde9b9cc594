use Rattle.std.proofs.Common.{rules, ◌≡◌, ◌∙◌, refl, sym, ap, ◌<◌, ◌-◌, length, arith, FitsSigned, w64, slice_get, Some, map, vec_len, vec_capacity}
use Rattle.std.proofs.lemmas.Int.{to_z-of_z}
use Rattle.std.proofs.lemmas.Option.{slice_get_read}
use Rattle.dom_cells.specs.Cell.{Suits}
use Rattle.dom_cells.specs.Box.{CellsView}
use Rattle.dom_cells.specs.Stack.{literal_of}
use Rattle.dom_cells.proofs.PrefixLaws.{same_box}
use Rattle.dom_cells.proofs.StackLaws.{IsOpen, open_at}
use Rattle.std.proofs.Common.{subst, ◌++◌, ◌∷◌, []}
use Rattle.std.proofs.lemmas.List.{map_push}
use Rattle.dom_cells.proofs.StackLaws.{length-starts, narrowed_stack, held-cell, false-cell, possible-cell, fails-cell, starts-set}
use Rattle.dom_cells.proofs.cells.Cells.narrow.Goals as goal

pub step-step-requires-clause-sound : goal.step-step-requires-clause-sound
step-step-requires-clause-sound c =
    let shown : IsOpen c.args.self.now.state c.args.literal.var.0 c.index-cell.result.now = open_at c.self.inside c.args.self.now c.args.literal.var.0 c.index-cell.result.now c.self.invariant c.self.view_is c.requires.var c.index-cell.ensures in
    shown.shows.sound

pub step-step-requires-clause-suits : goal.step-step-requires-clause-suits
step-step-requires-clause-suits c =
    let shown : IsOpen c.args.self.now.state c.args.literal.var.0 c.index-cell.result.now = open_at c.self.inside c.args.self.now c.args.literal.var.0 c.index-cell.result.now c.self.invariant c.self.view_is c.requires.var c.index-cell.ensures in
    subst (λ s. Suits s c.args.literal.rel) shown.start c.requires.suits

places : (c : goal.After-push_reserved) → c.args.literal.var.0 < length c.self.inside.cells.items
places c = (let n : length c.args.self.now.state.starts ≡ length c.self.inside.cells.items =
    ap (λ (t : CellsView). length t.state.starts) (sym c.self.view_is) ∙ length-starts c.self.inside.cells.items in
    let lt : c.args.literal.var.0 < length c.args.self.now.state.starts = c.requires.var in omega arith)

-- the cell is the one at the literal's place
read : (c : goal.After-push_reserved) → slice_get c.self.inside.cells.items c.args.literal.var.0 ≡ Some c.index-cell.result.now
read c = slice_get_read c.self.inside.cells.items _ c.args.literal.var.0 c.index-cell.result.now refl (places c) c.index-cell.ensures

read_mut : (c : goal.After-push_reserved) → slice_get c.self.inside.cells.items c.args.literal.var.0 ≡ Some c.index_mut-cell.result.now
read_mut c = slice_get_read c.self.inside.cells.items _ c.args.literal.var.0 c.index_mut-cell.result.now refl (places c) c.index_mut-cell.ensures.value

pub invariant_of-self : goal.invariant_of-self
invariant_of-self c =
    let lo_fits : FitsSigned w64 c.in-Change.lo = search rules in
    let hi_fits : FitsSigned w64 c.in-Change.hi = search rules in
    let old_lo_fits : FitsSigned w64 c.index_mut-cell.result.now.lo = search rules in
    let old_hi_fits : FitsSigned w64 c.index_mut-cell.result.now.hi = search rules in
    let shown : IsOpen c.args.self.now.state c.args.literal.var.0 c.index-cell.result.now = open_at c.self.inside c.args.self.now c.args.literal.var.0 c.index-cell.result.now c.self.invariant c.self.view_is c.requires.var c.index-cell.ensures in
    rw (
      to_z-of_z w64 c.in-Change.lo lo_fits,
      to_z-of_z w64 c.in-Change.hi hi_fits,
      c.push_reserved.ensures.items,
      to_z-of_z w64 c.index_mut-cell.result.now.lo old_lo_fits,
      to_z-of_z w64 c.index_mut-cell.result.now.hi old_hi_fits,
    )
    (narrowed_stack c.self.inside.cells.items c.self.inside.changes.items c.args.literal c.index-cell.result.now c.index_mut-cell.result.now
    c.in-Change.lo c.in-Change.hi c.in-Change.hole c.put.new.self c.self.invariant (read c) (read_mut c)
    (subst (λ s. Suits s c.args.literal.rel) shown.start c.requires.suits) c.in-Change.ensures c.put.ensures)

pub returns-in-Same : goal.returns-in-Same
returns-in-Same c =
    let shown : IsOpen c.args.self.now.state c.args.literal.var.0 c.index-cell.result.now = open_at c.self.inside c.args.self.now c.args.literal.var.0 c.index-cell.result.now c.self.invariant c.self.view_is c.requires.var c.index-cell.ensures in
    (held-cell c.args.self.now.state c.args.literal.var.0 c.index-cell.result.now c.args.literal shown c.in-Same.ensures, refl)

pub returns-in-Emptied : goal.returns-in-Emptied
returns-in-Emptied c =
    let shown : IsOpen c.args.self.now.state c.args.literal.var.0 c.index-cell.result.now = open_at c.self.inside c.args.self.now c.args.literal.var.0 c.index-cell.result.now c.self.invariant c.self.view_is c.requires.var c.index-cell.ensures in
    (false-cell c.args.self.now.state c.args.literal.var.0 c.index-cell.result.now c.args.literal shown c.in-Emptied.ensures, refl)

pub returns-in-Change : goal.returns-in-Change
returns-in-Change c =
    let shown : IsOpen c.args.self.now.state c.args.literal.var.0 c.index-cell.result.now = open_at c.self.inside c.args.self.now c.args.literal.var.0 c.index-cell.result.now c.self.invariant c.self.view_is c.requires.var c.index-cell.ensures in (
      possible-cell c.args.self.now.state c.args.literal.var.0 c.index-cell.result.now c.args.literal shown (c.in-Change.ensures.0.kept, c.in-Change.ensures.0.kept_has, c.in-Change.ensures.0.kept_holds),
      fails-cell c.args.self.now.state c.args.literal.var.0 c.index-cell.result.now c.args.literal shown (c.in-Change.ensures.0.lost, c.in-Change.ensures.0.lost_has, c.in-Change.ensures.0.lost_fails),
      record {
        state = same_box (starts-set c.self.inside.cells.items c.args.literal.var.0 c.index_mut-cell.result.now _ (read_mut c) refl ∙ ap (λ (t : CellsView). t.state.starts) c.self.view_is)
            (ap (map literal_of) c.push_reserved.ensures.items ∙ map_push literal_of c.self.inside.changes.items _ ∙ ap (λ (t : CellsView). t.state.literals ++ c.args.literal ∷ []) c.self.view_is);
        spare = (let e : vec_capacity c.self.inside.changes - vec_len c.self.inside.changes ≡ c.args.self.now.spare = ap (λ (t : CellsView). t.spare) c.self.view_is in
            omega (arith, c.push_reserved.ensures.len, c.push_reserved.ensures.capacity, c.requires.spare));
      },
    )
