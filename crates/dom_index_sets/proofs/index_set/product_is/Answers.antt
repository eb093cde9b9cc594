use Rattle.std.proofs.Common.{◌+◌, ◌*◌, ◌<◌, arith}
use Rattle.dom_index_sets.proofs.SizeLaws.{product_next, too_great, fits_product}
use Rattle.dom_index_sets.proofs.index_set.product_is.Goals as goal

pub overflow_mul-product : goal.overflow_mul-product
overflow_mul-product c = omega (arith, fits_product _ _ c.loop-set.invariant.small c.size-product.ensures.small)

pub returns-then-product-from : goal.returns-then-product-from
returns-then-product-from c =
    let next = product_next c.args.sets.now c.loop-set.set-index _ _ _ c.loop-set-test.true c.loop-set.invariant.so_far c.size-product.ensures.size in
    let great : c.args.length < c.loop-set.product * c.size-product.result = omega (arith, c.from.ensures) in
    (λ e. absurd cc, λ same. absurd (too_great c.args.sets.now (c.loop-set.set-index + 1) c.args.length _ c.requires next great same))

pub loop-set-preserved : goal.loop-set-preserved
loop-set-preserved c = record {
  so_far = product_next c.args.sets.now c.loop-set.set-index _ _ _ c.loop-set-test.true c.loop-set.invariant.so_far c.size-product.ensures.size;
  small = omega (arith, c.from.ensures, c.ranges.length.fits);
}
