use Rattle.std.proofs.Common.{◌≡◌, ℕ, List, Some, MatchOption, slice_get, subst}
use Rattle.fzn_symbols.specs.Listed.{IsUnlisted}
use Rattle.fzn_symbols.proofs.Keys.{found}
use Rattle.fzn_symbols.proofs.names.Names.find.Goals as goal

pub returns : goal.returns
returns c =
    let n = c.args.name.now in
    subst (λ (names : List (List ℕ)). MatchOption c.get_index_of.result (IsUnlisted names n) (λ i. slice_get names i ≡ Some n)) c.self.view_is
    (found (λ k. k.now) n c.self.inside.names.keys c.get_index_of.result c.get_index_of.ensures.index c.get_index_of.ensures.found)
