use Rattle.std.proofs.Common.{◌≡◌, ◌∙◌, sym, ap, List, get_or, slice_get, Some}
use Rattle.std.proofs.lemmas.Option.{slice_get-get_or}
use Rattle.dom_core.specs.declared.var_id.VarId.{VarId}
use Rattle.kind_law.specs.Reason.{AddsFine}
use Rattle.kind_law.proofs.ReasonLaws.{adds-more, vars-more}
use Rattle.kind_law.proofs.reason.explain_all.Goals as goal

pub loop-var-preserved : goal.loop-var-preserved
loop-var-preserved g c =
    let list : c.vars-var-items.result.now ≡ g.K.Kind.vars c.args.kind.now = c.vars-var-items.ensures in
    let read : slice_get c.vars-var-items.result.now c.loop-var.var-index ≡ Some (get_or c.vars-var-items.result.now c.loop-var.var-index (record { 0 = 0 })) =
    slice_get-get_or c.vars-var-items.result.now c.loop-var.var-index (record { 0 = 0 }) c.loop-var-test.true in
    let more : AddsFine c.args.cells.now.state c.loop-var.out c.explain.new.out = c.in_ok-explain.ensures.fine in
    record {
      fine = adds-more c.args.cells.now.state c.args.out.now c.loop-var.out c.explain.new.out c.loop-var.invariant.fine more;
      covers = vars-more c.args.cells.now.state (g.K.Kind.inside c.args.kind.now) c.args.implied (g.K.Kind.vars c.args.kind.now) c.loop-var.var-index (get_or c.vars-var-items.result.now c.loop-var.var-index (record { 0 = 0 })) c.is_deep-deep.result
          c.loop-var.out c.explain.new.out more c.is_deep-deep.ensures (ap (λ (vs : List VarId). slice_get vs c.loop-var.var-index) (sym list) ∙ read)
          c.loop-var.invariant.covers c.in_ok-explain.ensures.covers;
    }
