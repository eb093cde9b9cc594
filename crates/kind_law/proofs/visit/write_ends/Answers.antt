use Rattle.std.proofs.Common.{◌≡◌, ◌∙◌, ◌+◌, ◌<◌, sym, ap, subst, List, length, take, get_or, slice_get, Some}
use Rattle.std.proofs.lemmas.Option.{slice_get-get_or}
use Rattle.dom_core.specs.declared.var_id.VarId.{VarId}
use Rattle.dom_cells.specs.Box.{cell_of}
use Rattle.kind_law.specs.Visit.{AreEnds}
use Rattle.kind_law.proofs.VisitLaws.{ends_more}
use Rattle.kind_law.proofs.EachLaws.{each_at}
use Rattle.kind_law.proofs.visit.write_ends.Goals as goal

pub loop-var-preserved : goal.loop-var-preserved
loop-var-preserved g c =
    let list : c.vars-var-items.result.now ≡ g.K.Kind.vars c.args.kind.now = c.vars-var-items.ensures in
    let read : slice_get c.vars-var-items.result.now c.loop-var.var-index ≡ Some (get_or c.vars-var-items.result.now c.loop-var.var-index (record { 0 = 0 })) =
    slice_get-get_or c.vars-var-items.result.now c.loop-var.var-index (record { 0 = 0 }) c.loop-var-test.true in
    let at : slice_get (g.K.Kind.vars c.args.kind.now) c.loop-var.var-index ≡ Some (get_or c.vars-var-items.result.now c.loop-var.var-index (record { 0 = 0 })) =
    ap (λ (vs : List VarId). slice_get vs c.loop-var.var-index) (sym list) ∙ read in
    let lt = each_at (λ u. u.0 < length c.args.cells.now.state.starts) (g.K.Kind.vars c.args.kind.now) c.loop-var.var-index
    (get_or c.vars-var-items.result.now c.loop-var.var-index (record { 0 = 0 })) c.requires.below at in
    subst (AreEnds (g.K.Kind.refuted c.args.kind.now) (take (c.loop-var.var-index + 1) (g.K.Kind.vars c.args.kind.now)) (cell_of c.args.cells.now.state) (length c.args.cells.now.state.starts))
    (sym c.in_ok-add_implied.ensures)
    (ends_more (g.K.Kind.refuted c.args.kind.now) (g.K.Kind.vars c.args.kind.now) (cell_of c.args.cells.now.state) (length c.args.cells.now.state.starts) c.loop-var.var-index
    (get_or c.vars-var-items.result.now c.loop-var.var-index (record { 0 = 0 })) c.loop-var.ends c.first_end-end.result c.loop-var.invariant at lt
    (c.width-width.ensures.sound.cells (get_or c.vars-var-items.result.now c.loop-var.var-index (record { 0 = 0 })).0 lt) c.first_end-end.ensures)
