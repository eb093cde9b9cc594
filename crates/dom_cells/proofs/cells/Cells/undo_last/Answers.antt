use Rattle.std.proofs.Common.{rules, ◌≡◌, ◌∙◌, refl, ap, ◌-◌, length, arith, FitsSigned, w64, slice_get, Some, vec_len, vec_capacity}
use Rattle.std.proofs.lemmas.Int.{to_z-of_z}
use Rattle.std.proofs.lemmas.List.{length-map}
use Rattle.std.proofs.lemmas.Option.{slice_get_read}
use Rattle.dom_cells.specs.Box.{CellsView}
use Rattle.std.proofs.Common.{map, take}
use Rattle.dom_cells.specs.Stack.{literal_of}
use Rattle.dom_cells.proofs.PrefixLaws.{same_box}
use Rattle.dom_cells.proofs.StackLaws.{popped-within, popped_stack, literals-front, starts-set}
use Rattle.dom_cells.proofs.cells.Cells.undo_last.Goals as goal

pub index_mut-cell-requires : goal.index_mut-cell-requires
index_mut-cell-requires c =
    let n : vec_len c.self.inside.cells ≡ length c.self.inside.cells.items = search rules in
    rw n (popped-within c.self.inside.cells.items c.self.inside.changes.items c.pop.new.self.items c.in-Some.change c.self.invariant c.in-Some.ensures.items)

read : (c : goal.After-self-1) → slice_get c.self.inside.cells.items c.in-Some.change.literal.var.0 ≡ Some c.index_mut-cell.result.now
read c = slice_get_read c.self.inside.cells.items _ c.in-Some.change.literal.var.0 c.index_mut-cell.result.now refl
    (popped-within c.self.inside.cells.items c.self.inside.changes.items c.pop.new.self.items c.in-Some.change c.self.invariant c.in-Some.ensures.items)
    c.index_mut-cell.ensures.value

pub invariant_of-self : goal.invariant_of-self
invariant_of-self c =
    let lo_fits : FitsSigned w64 c.in-Some.change.lo = search rules in
    let hi_fits : FitsSigned w64 c.in-Some.change.hi = search rules in
    rw (to_z-of_z w64 c.in-Some.change.lo lo_fits, to_z-of_z w64 c.in-Some.change.hi hi_fits)
    (popped_stack c.self.inside.cells.items c.self.inside.changes.items c.pop.new.self.items c.in-Some.change c.index_mut-cell.result.now c.put.new.self
    c.self.invariant c.in-Some.ensures.items (read c) c.put.ensures)

pub returns-in-Some : goal.returns-in-Some
returns-in-Some c = record {
  state = same_box (starts-set c.self.inside.cells.items c.in-Some.change.literal.var.0 c.index_mut-cell.result.now _ (read c) refl ∙ ap (λ (t : CellsView). t.state.starts) c.self.view_is)
      (literals-front c.self.inside.changes.items c.pop.new.self.items c.in-Some.change c.in-Some.ensures.items
      ∙ ap (λ (t : CellsView). take (length t.state.literals - 1) t.state.literals) c.self.view_is);
  spare = (let e : vec_capacity c.self.inside.changes - vec_len c.self.inside.changes ≡ c.args.self.now.spare = ap (λ (t : CellsView). t.spare) c.self.view_is in
      let n : length (map literal_of c.self.inside.changes.items) ≡ length c.args.self.now.state.literals = ap (λ (t : CellsView). length t.state.literals) c.self.view_is in
      let m : length (map literal_of c.self.inside.changes.items) ≡ length c.self.inside.changes.items = length-map c.self.inside.changes.items literal_of in
      omega (arith, c.in-Some.ensures.len, c.in-Some.ensures.capacity, c.self.inside.changes.ok));
}
