use Rattle.std.proofs.Common.{sym, subst, arith}
use Rattle.dom_model.specs.Draft.{IsFitPosted}
use Rattle.fzn_model.specs.Posting.{posted_as}
use Rattle.fzn_model.proofs.Postings.{defines_same, defined_below, kind_fit}
use Rattle.fzn_model.proofs.posting.post_kind.Goals as goal

pub constraint-requires-clause-fit : goal.constraint-requires-clause-fit
constraint-requires-clause-fit c =
    let k = c.args.constraint.now in
    let told = defines_same c.scope-scope.result.now c.args.values.now c.as_slice.result.now c.args.defined.now.items c.as_bytes-name.result.now k.name.name c.args.kind
    c.as_slice-annotations.result.now k.annotations c.defines-defines.result c.scope-scope.ensures c.as_slice.ensures.value c.as_bytes-name.ensures c.as_slice-annotations.ensures
    c.defines-defines.ensures in
    subst (λ n. IsFitPosted n (posted_as c.args.kind c.defines-defines.result)) (sym c.requires.count)
    (kind_fit c.args.values.now c.args.defined.now.items k.name.name c.args.kind k.annotations c.defines-defines.result told k c.requires.kind)

pub define-requires : goal.define-requires
define-requires c = λ x is.
    let k = c.args.constraint.now in
    let told = defines_same c.scope-scope.result.now c.args.values.now c.as_slice.result.now c.args.defined.now.items c.as_bytes-name.result.now k.name.name c.args.kind
    c.as_slice-annotations.result.now k.annotations c.defines-defines.result c.scope-scope.ensures c.as_slice.ensures.value c.as_bytes-name.ensures c.as_slice-annotations.ensures
    c.defines-defines.ensures in
    let below = defined_below c.args.values.now c.args.defined.now.items k.name.name c.args.kind k.annotations c.defines-defines.result told x is in
    omega (arith, below, c.requires.whole)
