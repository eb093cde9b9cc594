-- Where a list of symbols fails: the first symbol with which it begins nothing of the language.
use Rattle.std.specs.Prelude.{◌≡◌, ℕ, List, [], ◌∷◌, ◌++◌, length}

-- the symbols begin something of the language
abbrev pub Begins : {S X : Type 0} → (X → List S → Type 0) → List S → Type 0
Begins {S} {X} D symbols = (x : X) × (more : List S) × D x (symbols ++ more)

-- the front is nothing of the language where it is all, and begins nothing with the next symbol
abbrev pub Refuses : {S X : Type 0} → (X → List S → Type 0) → List S → List S → Type 0
Refuses {S} {X} D front [] = (x : X) → D x front → ⊥
Refuses D front (s ∷ rest) = Begins D (front ++ s ∷ []) → ⊥

-- the symbols before the place begin something, and with the symbol there nothing; so many are left from there on
pub record FailsAt {S X : Type 0} (D : X → List S → Type 0) (symbols : List S) (left : ℕ) : Type 0 where
  pub front : List S
  pub rest : List S
  pub parts : symbols ≡ front ++ rest
  pub count : left ≡ length rest
  pub fine : Begins D front
  pub wrong : Refuses D front rest
