-- Languages: which lists of symbols spell a thing.
use Rattle.std.specs.Prelude.{◌≡◌, List, [], ◌∷◌, ◌++◌, Option, Some, None}

infixr 20 ◌⨾◌
-- the first part, and behind it the second
abbrev pub ◌⨾◌ : {S : Type 0} → (List S → Type 0) → (List S → Type 0) → List S → Type 0
◌⨾◌ {S} A B symbols = (a : List S) × (b : List S) × (symbols ≡ a ++ b) × A a × B b

-- no symbol at all
abbrev pub Nothing : {S : Type 0} → List S → Type 0
Nothing symbols = symbols ≡ []

-- one symbol, which is worth the thing
abbrev pub One : {S X : Type 0} → (S → Option X) → X → List S → Type 0
One {S} worth x symbols = (s : S) × (worth s ≡ Some x) × (symbols ≡ s ∷ [])

-- a thing, or no symbol where there is none
abbrev pub Maybe : {S X : Type 0} → (X → List S → Type 0) → Option X → List S → Type 0
Maybe D (Some x) = D x
Maybe D None = Nothing

-- one thing behind the other
abbrev pub Each : {S X : Type 0} → (X → List S → Type 0) → List X → List S → Type 0
Each D [] = Nothing
Each D (x ∷ xs) = D x ⨾ Each D xs

-- one thing or more, each but the first behind a separator
abbrev pub Listed : {S X : Type 0} → (List S → Type 0) → (X → List S → Type 0) → List X → List S → Type 0
Listed separator D [] symbols = ⊥
Listed separator D (x ∷ xs) symbols = (D x ⨾ Each (λ y. separator ⨾ D y) xs) symbols

-- the same, or no symbol where there is no thing
abbrev pub MaybeListed : {S X : Type 0} → (List S → Type 0) → (X → List S → Type 0) → List X → List S → Type 0
MaybeListed separator D [] = Nothing
MaybeListed separator D (x ∷ xs) = D x ⨾ Each (λ y. separator ⨾ D y) xs
