-- How lists of labels grow, one for each number, where some numbers are met under one label.
use Rattle.std.specs.Prelude.{◌≡◌, ◌<◌, ◌⊎◌, ◌↔◌, ℕ, Bool, true, List, [], ◌∷◌, ◌++◌, length, slice_index_or}
use Rattle.std.specs.List.{Contains}
use Rattle.incidence.specs.Dependents.{IsAsked}

-- the label stands behind the list exactly where the number was met
abbrev pub HasLabel : ℕ → List ℕ → ℕ → List ℕ → List ℕ → Type 0
HasLabel label met x old new = ((new ≡ old) × (Contains met x → ⊥)) ⊎ ((new ≡ old ++ label ∷ []) × Contains met x)

-- the lists are those of before, none of which had the label, and the label stands behind those of the numbers met
pub record IsMet (before : List (List ℕ)) (label : ℕ) (met : List ℕ) (lists : List (List ℕ)) : Type 0 where
  pub whole : length lists ≡ length before
  pub fresh : (x : ℕ) → Contains (slice_index_or before x []) label → ⊥
  pub at : (x : ℕ) → x < length before → HasLabel label met x (slice_index_or before x []) (slice_index_or lists x [])

-- the numbers for which this holds, and that have a list, are met
abbrev pub AddsThose : ℕ → (ℕ → Type 0) → List ℕ → List ℕ → Type 0
AddsThose count Q old new = (x : ℕ) → Contains new x ↔ (Contains old x ⊎ (Q x × (x < count)))

-- the numbers for which this holds are met under the label
abbrev pub Meets : ℕ → (ℕ → Type 0) → List ℕ → List (List ℕ) → List ℕ → List (List ℕ) → Type 0
Meets label Q met_old old met_new new = (before : List (List ℕ)) → IsMet before label met_old old
    → IsMet before label met_new new × AddsThose (length before) Q met_old met_new

-- the number is the node, which is asked for, or one of the node's sources
abbrev pub HasSource : List (List ℕ) → List Bool → ℕ → ℕ → Type 0
HasSource sources among node x = (node < length sources) × (((x ≡ node) × IsAsked among node) ⊎ Contains (slice_index_or sources node []) x)

-- this holds for one of the nodes
abbrev pub SuccessorHasSource : List (List ℕ) → List Bool → List ℕ → ℕ → Type 0
SuccessorHasSource sources among nodes x = (node : ℕ) × Contains nodes node × HasSource sources among node x
