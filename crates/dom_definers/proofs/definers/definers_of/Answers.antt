-- One constraint more in front.
use Rattle.std.proofs.Common.{◌≡◌, ◌<◌, ◌+◌, ◌-◌, ℕ, length, get_or, List, Option, sym, subst, arith, ap, ◌∙◌, drop}
use Rattle.dom_definers.specs.Definers.{definer_at, definer_from, IsBelowSome, with_definer}
use Rattle.dom_definers.specs.declared.posted.Posted.{Posted}
use Rattle.dom_definers.proofs.DefinersLaws.{below_at, put_next, put_length}
use Rattle.dom_definers.proofs.definers.definers_of.Goals as goal

pub put-requires : goal.put-requires
put-requires c =
    subst (λ (n : ℕ). IsBelowSome n (get_or c.args.constraints.now (c.loop-place.place - 1) c.index-constraints-place.result).defines) (sym c.loop-place.invariant.whole)
    (below_at c.args.count c.args.constraints.now (c.loop-place.place - 1) c.index-constraints-place.result c.requires (omega (arith, c.loop-place.invariant.within, c.loop-place-test.true)))

pub loop-place-preserved : goal.loop-place-preserved
loop-place-preserved c =
    let lt : c.loop-place.place - 1 < length c.args.constraints.now = omega (arith, c.loop-place.invariant.within, c.loop-place-test.true) in
    let one : c.loop-place.place ≡ c.loop-place.place - 1 + 1 = omega (arith, c.loop-place-test.true) in
    let put_is : c.put.new.definers.items ≡ with_definer c.loop-place.definers.items c.index-constraints-place.result.defines (c.loop-place.place - 1) =
    c.put.ensures ∙ ap (λ (p : Posted). with_definer c.loop-place.definers.items p.defines (c.loop-place.place - 1)) (sym c.index-constraints-place.is) in
    record {
      within = omega (arith, lt);
      whole = ap (λ (ds : List (Option ℕ)). length ds) put_is ∙ put_length c.index-constraints-place.result.defines c.loop-place.definers.items (c.loop-place.place - 1) ∙ c.loop-place.invariant.whole;
      put = λ v below. ap (λ (ds : List (Option ℕ)). definer_at ds v) put_is
          ∙ put_next c.args.constraints.now c.loop-place.definers.items (c.loop-place.place - 1) v c.index-constraints-place.result lt c.index-constraints-place.is
          (omega (arith, below, c.loop-place.invariant.whole))
          (subst (λ (j : ℕ). definer_at c.loop-place.definers.items v ≡ definer_from j (drop j c.args.constraints.now) v) one (c.loop-place.invariant.put v below));
    }
