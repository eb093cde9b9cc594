-- How an assignment is filled: first the free variables, then each defined one behind what its definition reads.
use Rattle.std.specs.Prelude.{◌≡◌, true, Option, Some, None, List, [], ◌∷◌, ℕ, ℤ, slice_set}
use Rattle.any_kind.specs.Any.{any_given, any_inputs}
use Rattle.any_kind.specs.declared.any.AnyKind.{AnyKind}
use Rattle.dom_core.specs.Assignment.{entry_at}
use Rattle.dom_core.specs.Ends.{Ends, lies_in}
use Rattle.dom_core.specs.declared.var_id.VarId.{VarId}
use Rattle.dom_definers.specs.Definers.{definer_at}
use Rattle.dom_definers.specs.Hulls.{spans}
use Rattle.dom_network.specs.Completion.{definition_at}
use Rattle.dom_network.specs.Network.{Network}
use Rattle.kind_law.specs.Laws.{Each}

-- the assignment where the variables have these values
abbrev pub written : List VarId → List ℤ → List ℤ → List ℤ
written [] xs a = a
written (v ∷ vs) [] a = a
written (v ∷ vs) (x ∷ xs) a = written vs xs (slice_set a v.0 x)

-- the definition of the variable with this number
abbrev pub own_definition : Network → ℕ → Option AnyKind
own_definition m v = definition_at m.constraints (definer_at m.definers v)

-- the assignment where the variable has what the definition, where there is one, gives
abbrev pub with_given : Option AnyKind → ℕ → List ℤ → List ℤ
with_given None v a = a
with_given (Some k) v a = slice_set a v (any_given k a)

-- what the definition reads lies in its hulls
abbrev pub IsReadInside : List (Option Ends) → Option AnyKind → List ℤ → Type 0
IsReadInside hs None a = Unit {0}
IsReadInside hs (Some k) a = Each (λ u. lies_in (entry_at a u.0) (spans hs u.0) ≡ true) (any_inputs k)
