-- A machine that takes one symbol after the other: it stops at a wrong one, is done behind a last one, or goes on in another state.
use Rattle.std.specs.Prelude.{List, [], ◌∷◌, length, Option, Some, None, Ok, Err}
use Rattle.reading.specs.Readers.{Answer, ◌>>=◌}

-- what it answers after a symbol, and what it answers further on
abbrev pub turned : {S Q : Type 0} → Option (Option Q) → S → List S → (Q → Answer S (List S)) → Answer S (List S)
turned None s symbols further = Err (length (s ∷ symbols))
turned (Some None) s symbols further = Ok (s ∷ [], symbols)
turned (Some (Some q)) s symbols further = further q >>= λ x. Ok (s ∷ x.0, x.1)

-- the symbols that it takes
abbrev pub run : {S Q : Type 0} → (Q → S → Option (Option Q)) → Q → List S → Answer S (List S)
run step q [] = Err 0
run step q (s ∷ symbols) = turned (step q s) s symbols (λ r. run step r symbols)
