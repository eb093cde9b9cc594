use Rattle.std.proofs.Common.{◌≡◌, ◌∙◌, sym, ap, List, get_or, slice_get, Some}
use Rattle.std.proofs.lemmas.Option.{slice_get-get_or}
use Rattle.dom_core.specs.declared.var_id.VarId.{VarId}
use Rattle.dom_cells.specs.Box.{cell_of}
use Rattle.kind_law.specs.Next.{HasNoEnd}
use Rattle.kind_law.proofs.EachLaws.{each_more}
use Rattle.kind_law.proofs.NextLaws.{first_none, not_some}
use Rattle.kind_law.proofs.next.next_of.Goals as goal

pub loop-var-preserved : goal.loop-var-preserved
loop-var-preserved g c =
    let list : c.vars-var-items.result.now ≡ g.K.Kind.vars c.args.kind.now = c.vars-var-items.ensures in
    let read : slice_get c.vars-var-items.result.now c.loop-var.var-index ≡ Some (get_or c.vars-var-items.result.now c.loop-var.var-index (record { 0 = 0 })) =
    slice_get-get_or c.vars-var-items.result.now c.loop-var.var-index (record { 0 = 0 }) c.loop-var-test.true in
    each_more (HasNoEnd (g.K.Kind.refuted c.args.kind.now) (cell_of c.args.cells.now.state)) (g.K.Kind.vars c.args.kind.now) c.loop-var.var-index
    (get_or c.vars-var-items.result.now c.loop-var.var-index (record { 0 = 0 })) c.loop-var.invariant
    (ap (λ (vs : List VarId). slice_get vs c.loop-var.var-index) (sym list) ∙ read)
    (first_none (g.K.Kind.refuted c.args.kind.now) (cell_of c.args.cells.now.state) (get_or c.vars-var-items.result.now c.loop-var.var-index (record { 0 = 0 }))
    c.first_end-end.result (not_some c.first_end-end.result (sym c.is_some.ensures ∙ c.if-is_some.false)) c.first_end-end.ensures)
