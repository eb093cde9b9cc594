-- What is found at declarations, one thing at most at each.
use Rattle.std.specs.Prelude.{◌≡◌, ℕ, ◌+◌, cond, List, [], ◌∷◌, ◌++◌, Option, Some, None}
use Rattle.fzn_limits.specs.Sizes.{is_variable}
use Rattle.fzn_syntax.specs.declared.declaration.Declaration.{Declaration}

-- how many variables are declared here
abbrev pub count_by : Declaration → ℕ
count_by d = cond (is_variable d) 1 0

-- the one thing, or none
abbrev pub listed : {X : Type 0} → Option X → List X
listed None = []
listed (Some x) = x ∷ []

-- what is found at the declarations, in their order. What is found at one depends on the number of the first variable that is declared
-- there or behind; at the first declaration of all that is the number given
abbrev pub AreFound : {X : Type 0} → (ℕ → Declaration → Option X → Type 0) → ℕ → List Declaration → List X → Type 0
AreFound F i [] xs = xs ≡ []
AreFound {X} F i (d ∷ ds) xs = (x : Option X) × (rest : List X) × F i d x × (xs ≡ listed x ++ rest) × AreFound F (i + count_by d) ds rest
