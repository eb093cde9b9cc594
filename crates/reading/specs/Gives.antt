-- What a function returned against what a reader answers.
use Rattle.std.specs.Prelude.{◌≡◌, ℕ, Result, Ok, Err}
use Rattle.reading.specs.declared.error.ParseError.{ParseError}
use Rattle.reading.specs.declared.error.ParseError.TheVariants.{Stuck, Memory}

-- it is stuck where the reader is, unless memory ran out
abbrev pub Fails : {Y : Type 0} → ParseError → Result Y ℕ → Type 0
Fails (Stuck left) answer = answer ≡ Err left
Fails Memory answer = Unit {0}

-- what a function returned, seen by view, is what the reader answers, unless memory ran out
abbrev pub Gives : {X Y : Type 0} → (X → Y) → Result X ParseError → Result Y ℕ → Type 0
Gives view (Ok x) answer = answer ≡ Ok (view x)
Gives view (Err e) answer = Fails e answer
