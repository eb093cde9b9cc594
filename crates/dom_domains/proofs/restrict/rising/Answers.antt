-- The values, sorted and each once, are the list's, rising.
use Rattle.std.proofs.Common.{◌≡◌, rules}
use Rattle.dom_core.proofs.SortLaws.{sorted_is}
use Rattle.dom_domains.proofs.RisingLaws.{sorted_rising}
use Rattle.dom_domains.proofs.restrict.rising.Goals as goal

pub returns : goal.returns
returns c =
    let copied : c.in_ok-sorted.sorted.items ≡ c.args.values.now = search rules in
    rw (← copied) (sorted_rising c.in_ok-sorted.sorted.items c.dedup.new.self.items (sorted_is c.in_ok-sorted.sorted.items c.sort_unstable.new.self.items c.dedup.new.self.items
    c.sort_unstable.ensures.permutation c.sort_unstable.ensures.sorted c.dedup.ensures.filtered))
