-- The place of a variable in the list of those that nothing defines.
use Rattle.std.specs.Prelude.{◌≡◌, Option, Some, None, List, [], ◌∷◌, ℕ, suc, slice_get, ℤ}
use Rattle.dom_core.specs.declared.var_id.VarId.{VarId}
use Rattle.dom_definers.specs.Definers.{definer_at}
use Rattle.dom_network.specs.Free.{free_of}
use Rattle.dom_network.specs.Network.{Network}

-- the variable stands at this place of the list of free ones, and has none exactly where it is defined
abbrev pub IsPlace : List (Option ℕ) → ℕ → Option ℕ → Type 0
IsPlace ds v None = definer_at ds v ≡ None → ⊥
IsPlace ds v (Some p) = (definer_at ds v ≡ None) × (slice_get (free_of ds) p ≡ Some (record { 0 = v }))

-- this is the domain of the variable, which is free
abbrev pub HasDomain : Network → ℕ → List ℤ → Type 0
HasDomain m v d = (p : ℕ) × IsPlace m.definers v (Some p) × (slice_get m.domains p ≡ Some d)

-- the place of a variable with this definer, where so many free ones stand before it
abbrev pub place_behind : ℕ → Option ℕ → Option ℕ
place_behind n None = Some n
place_behind n (Some i) = None

-- the variable in a list of its own, where it has no definer
abbrev pub free_here : ℕ → Option ℕ → List VarId
free_here v None = record { 0 = v } ∷ []
free_here v (Some i) = []

-- for each variable its place among the free ones, where so many stand before them
abbrev pub places_from : ℕ → List (Option ℕ) → List (Option ℕ)
places_from n [] = []
places_from n (None ∷ ds) = Some n ∷ places_from (suc n) ds
places_from n (Some i ∷ ds) = None ∷ places_from n ds

-- for each variable its place among the free ones
abbrev pub places_of : List (Option ℕ) → List (Option ℕ)
places_of ds = places_from 0 ds
