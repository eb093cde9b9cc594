use Rattle.std.proofs.Common.{rules}
use Rattle.std.proofs.Common.{◌≡◌}
use Rattle.dom_core.proofs.SortLaws.{sorted_is}
use Rattle.dom_core.proofs.sorts.sorted_of.Goals as goal

pub returns : goal.returns
returns c =
    let copied : c.in_ok-sorted.sorted.items ≡ c.args.values.now = search rules in
    rw (← copied) (sorted_is c.in_ok-sorted.sorted.items c.sort_unstable.new.self.items c.dedup.new.self.items
    c.sort_unstable.ensures.permutation c.sort_unstable.ensures.sorted c.dedup.ensures.filtered)
