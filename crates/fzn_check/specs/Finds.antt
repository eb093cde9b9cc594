-- What a search answers.
use Rattle.std.specs.Prelude.{Option, MatchOption}

-- one that has the property, or nothing where none has it
abbrev pub GivesAny : {X : Type 0} → (X → Type 0) → Option X → Type 0
GivesAny {X} P found = MatchOption found ((x : X) → P x → ⊥) P
