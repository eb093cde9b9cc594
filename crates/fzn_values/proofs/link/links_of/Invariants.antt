-- The links so far are those of the declarations.
use Rattle.std.proofs.Common.{◌≡◌, ◌<◌, ℕ, length, slice_get, Some}
use Rattle.chains.specs.Chains.{link_at}
use Rattle.fzn_syntax.specs.declared.declaration.Declaration.{Declaration}
use Rattle.fzn_values.specs.Links.{IsLinkOf}
use Rattle.fzn_values.proofs.link.links_of.Given as goal

abbrev pub invariant-loop-declaration : goal.invariant-loop-declaration
invariant-loop-declaration l = record {
  size : length l.links.items ≡ l.declaration-index;
  are : (k : ℕ) (d : Declaration) → k < l.declaration-index → slice_get l.scope k ≡ Some d → IsLinkOf l.scope l.literal d (link_at l.links.items k);
}
