-- What a domain keeps, and the list that contracts see.
use Rattle.std.proofs.Common.{◌≡◌, ◌<◌, ◌≤◌, List, length, ℤ, ◌≤ℤ◌, sym, ◌∙◌, ap, arith, Vec, Global}
use Rattle.dom_core.specs.Rises.{range_of, count_of}
use Rattle.dom_core.specs.Domain.{IsDomain, kept_values}
use Rattle.dom_core.specs.declared.domain.Kept.{Kept}
use Rattle.dom_core.specs.declared.domain.Kept.TheVariants.{Range, Listed}
use Rattle.dom_core.proofs.RisesLaws.{range_rises, range-length, count_some}

-- the list of a domain that is kept as two ends
pub range_view : (kept : Kept) (lo hi : ℤ) (xs : List ℤ) → kept_values kept ≡ xs → kept ≡ Range lo hi → xs ≡ range_of lo hi
range_view kept lo hi xs view is = sym view ∙ ap kept_values is

pub range_is_domain : (lo hi : ℤ) → lo ≤ℤ hi → count_of lo hi ≤ 4096 → IsDomain (range_of lo hi)
range_is_domain lo hi ends few =
    let n : length (range_of lo hi) ≡ count_of lo hi = range-length lo hi in
    let some : 0 < count_of lo hi = count_some lo hi ends in
    record { rises = range_rises lo hi; some = omega arith; few = omega arith }

-- the list of a domain that is kept as one
pub list_view : (kept : Kept) (values : Vec ℤ Global) (xs : List ℤ) → kept_values kept ≡ xs → kept ≡ Listed values → xs ≡ values.items
list_view kept values xs view is = sym view ∙ ap kept_values is
