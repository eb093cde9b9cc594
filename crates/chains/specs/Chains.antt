-- Where chains of places end.
use Rattle.std.specs.Prelude.{◌≡◌, ℕ, List, Option, None, Some, slice_index_or}
use Rattle.chains.specs.declared.link.Link.{Link}
use Rattle.chains.specs.declared.link.Link.TheVariants.{End, To, Nothing}

-- where this place leads: a place that isn't there leads nowhere
abbrev pub link_at : List Link → ℕ → Link
link_at links k = slice_index_or links k Nothing

-- the chain from the first place ends at the second
pub data Ends (links : List Link) : ℕ → ℕ → Type 0 where
  here : {k e : ℕ} → link_at links k ≡ End → e ≡ k → Ends links k e
  there : {k e : ℕ} (j : ℕ) → link_at links k ≡ To j → Ends links j e → Ends links k e

-- the chain from this place ends there, or nowhere
abbrev pub IsEnd : List Link → ℕ → Option ℕ → Type 0
IsEnd links k None = (e : ℕ) → Ends links k e → ⊥
IsEnd links k (Some e) = Ends links k e

-- the end that is kept for this place
abbrev pub end_at : List (Option ℕ) → ℕ → Option ℕ
end_at ends k = slice_index_or ends k None

-- each chain's end is kept
abbrev pub AreEnds : List Link → List (Option ℕ) → Type 0
AreEnds links ends = (k : ℕ) → IsEnd links k (end_at ends k)

-- a chain has one end at most
abbrev pub HasOneEnd : Type 0
HasOneEnd = (links : List Link) (k d e : ℕ) → Ends links k d → Ends links k e → d ≡ e
