-- What a sink or a reader of a whole file has of a text.
use Rattle.std.specs.Prelude.{◌≡◌, ℕ, ◌≤◌, List, ◌++◌, length, take, Option, Some}

-- the bytes so far, where they are told, have gained this piece
abbrev pub Gains : Option (List ℕ) → Option (List ℕ) → List ℕ → Type 0
Gains old new piece = (was : List ℕ) → old ≡ Some was → new ≡ Some (was ++ piece)

-- the bytes so far, where they are told, have gained a prefix of this text
pub record GainsPrefix (old new : Option (List ℕ)) (text : List ℕ) : Type 0 where
  pub count : ℕ
  pub within : count ≤ length text
  pub gained : Gains old new (take count text)
