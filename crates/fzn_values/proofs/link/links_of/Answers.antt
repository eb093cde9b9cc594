use Rattle.fzn_symbols.proofs.Places.{item_at}
use Rattle.fzn_values.proofs.Chained.{links_more, links_whole, links_size}
use Rattle.fzn_values.proofs.link.links_of.Goals as goal

pub loop-declaration-preserved : goal.loop-declaration-preserved
loop-declaration-preserved c =
    rw c.in_ok-push.ensures.items (record {
      size = links_size c.loop-declaration.links.items c.link_of.result c.loop-declaration.declaration-index c.loop-declaration.invariant.size;
      are = links_more c.args.scope.now c.args.literal c.loop-declaration.links.items c.loop-declaration.declaration-index c.declaration-item.result c.link_of.result c.loop-declaration.invariant.size
          c.loop-declaration.invariant.are
          (item_at c.args.scope.now c.declarations-declaration-items.result.now c.loop-declaration.declaration-index c.declaration-item.result c.declarations-declaration-items.ensures.all c.loop-declaration-test.true c.declaration-item.is)
          c.link_of.ensures;
    })

pub returns-clause-are : goal.returns-clause-are
returns-clause-are c =
    links_whole c.args.scope.now c.declarations-declaration-items.result.now c.args.literal c.loop-declaration.links.items c.loop-declaration.declaration-index c.declarations-declaration-items.ensures.all
    c.loop-declaration-test.false c.loop-declaration.invariant.are
