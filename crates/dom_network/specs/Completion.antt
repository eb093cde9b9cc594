-- The values that definitions give.
use Rattle.std.specs.Prelude.{◌≡◌, ◌<◌, true, Option, Some, None, List, [], ◌∷◌, ℕ, length, slice_get, ℤ}
use Rattle.any_kind.specs.Any.{any_given, any_inputs}
use Rattle.any_kind.specs.declared.any.AnyKind.{AnyKind}
use Rattle.dom_core.specs.Assignment.{entry_at}
use Rattle.dom_core.specs.Ends.{Ends, lies_in}
use Rattle.dom_definers.specs.Definers.{definer_at, numbers}
use Rattle.dom_definers.specs.Hulls.{spans}
use Rattle.dom_network.specs.Free.{free_values}

-- the constraint at the place of a definer
abbrev pub definition_at : List AnyKind → Option ℕ → Option AnyKind
definition_at ks None = None
definition_at ks (Some i) = slice_get ks i

-- the variable with this number has the value that the definition, where there is one, gives
abbrev pub HasGiven : Option AnyKind → List ℤ → ℕ → Type 0
HasGiven None a v = Unit {0}
HasGiven (Some k) a v = entry_at a v ≡ any_given k a

-- the free variables have these values, and each defined one has what its definition gives
pub record IsCompletion (ks : List AnyKind) (ds : List (Option ℕ)) (values a : List ℤ) : Type 0 where
  pub whole : length a ≡ length ds
  pub free : free_values ds a ≡ values
  pub defined : (v : ℕ) → v < length ds → HasGiven (definition_at ks (definer_at ds v)) a v

-- each value lies in the hull of its variable
pub record AreInHulls (hs : List (Option Ends)) (a : List ℤ) : Type 0 where
  pub whole : length a ≡ length hs
  pub inside : (v : ℕ) → v < length hs → lies_in (entry_at a v) (spans hs v) ≡ true

-- the variables that a definition reads
abbrev pub inputs_at : Option AnyKind → List ℕ
inputs_at None = []
inputs_at (Some k) = numbers (any_inputs k)

-- for each variable the numbers of those that its definition reads
abbrev pub reading_of : List AnyKind → List (Option ℕ) → List (List ℕ)
reading_of ks [] = []
reading_of ks (d ∷ ds) = inputs_at (definition_at ks d) ∷ reading_of ks ds
