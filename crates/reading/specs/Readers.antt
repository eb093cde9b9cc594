-- Reading a list of symbols from its front: what a reader answers, and how readers are joined.
use Rattle.std.specs.Prelude.{ℕ, zero, suc, Bool, true, false, List, [], ◌∷◌, length, Option, Some, None, Result, Ok, Err, if◌then◌else◌}

-- the thing at the front and the symbols behind it; or how many symbols are left, the wrong one first among them
abbrev pub Answer : Type 0 → Type 0 → Type 0
Answer S X = Result (X × List S) ℕ

infixl 10 ◌>>=◌
-- what follows an answer that is one
abbrev pub ◌>>=◌ : {A B : Type 0} → Result A ℕ → (A → Result B ℕ) → Result B ℕ
◌>>=◌ (Ok x) f = f x
◌>>=◌ (Err n) f = Err n

-- the first symbol is there and passes
abbrev pub begins : {S : Type 0} → (S → Bool) → List S → Bool
begins test [] = false
begins test (s ∷ symbols) = test s

-- no symbol passes
abbrev pub none : {S : Type 0} → S → Bool
none s = false

-- each symbol passes
abbrev pub all : {S : Type 0} → S → Bool
all s = true

-- what a symbol is worth, where it is worth anything
abbrev pub of_worth : {S X : Type 0} → Option X → S → List S → Answer S X
of_worth (Some x) s symbols = Ok (x, symbols)
of_worth None s symbols = Err (length (s ∷ symbols))

-- one symbol
abbrev pub one : {S X : Type 0} → (S → Option X) → List S → Answer S X
one worth [] = Err 0
one worth (s ∷ symbols) = of_worth (worth s) s symbols

-- no symbol
abbrev pub nothing : {S : Type 0} → List S → Answer S (Unit {0})
nothing symbols = Ok (tt, symbols)

-- the end
abbrev pub ends : {S : Type 0} → List S → Answer S (Unit {0})
ends [] = Ok (tt, [])
ends (s ∷ symbols) = Err (length (s ∷ symbols))

-- one thing, and behind it another
abbrev pub pair : {S X Y : Type 0} → (List S → Answer S X) → (List S → Answer S Y) → List S → Answer S (X × Y)
pair first second symbols = first symbols >>= λ x. second x.1 >>= λ y. Ok ((x.0, y.0), y.1)

-- what is made of a thing
abbrev pub made : {S X Y : Type 0} → (X → Y) → (List S → Answer S X) → List S → Answer S Y
made f read symbols = read symbols >>= λ x. Ok (f x.0, x.1)

-- the first symbol decides which of two readers reads
abbrev pub either : {S X : Type 0} → (S → Bool) → (List S → Answer S X) → (List S → Answer S X) → List S → Answer S X
either test read other symbols = if begins test symbols then read symbols else other symbols

-- a thing where the first symbol passes
abbrev pub maybe : {S X : Type 0} → (S → Bool) → (List S → Answer S X) → List S → Answer S (Option X)
maybe test read = either test (made (λ x. Some x) read) (made (λ _. None) nothing)

-- at most so many things, as long as the next one begins with a symbol that passes
abbrev pub many_of : {S X : Type 0} → ℕ → (S → Bool) → (List S → Answer S X) → List S → Answer S (List X)
many_of zero test read symbols = Ok ([], symbols)
many_of (suc n) test read symbols =
    if begins test symbols then (read symbols >>= λ x. many_of n test read x.1 >>= λ xs. Ok (x.0 ∷ xs.0, xs.1)) else Ok ([], symbols)

-- all of them
abbrev pub many : {S X : Type 0} → (S → Bool) → (List S → Answer S X) → List S → Answer S (List X)
many test read symbols = many_of (length symbols) test read symbols

-- a thing behind a separator
abbrev pub behind : {S X : Type 0} → (List S → Answer S (Unit {0})) → (List S → Answer S X) → List S → Answer S X
behind separator read = made (λ p. p.1) (pair separator read)

-- one thing or more, each but the first behind a separator, which begins with a symbol that passes
abbrev pub listed : {S X : Type 0} → (S → Bool) → (List S → Answer S (Unit {0})) → (List S → Answer S X) → List S → Answer S (List X)
listed test separator read = made (λ p. p.0 ∷ p.1) (pair read (many test (behind separator read)))

-- the same, or no symbol: a thing begins with a symbol that passes the first test
abbrev pub maybe_listed : {S X : Type 0} → (S → Bool) → (S → Bool) → (List S → Answer S (Unit {0})) → (List S → Answer S X) → List S → Answer S (List X)
maybe_listed starts test separator read = either starts (listed test separator read) (made (λ _. []) nothing)

-- one thing that takes all of the symbols
abbrev pub whole : {S X : Type 0} → (List S → Answer S X) → List S → Answer S X
whole read = made (λ p. p.0) (pair read ends)
