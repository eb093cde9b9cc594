-- What is answered where something may not be built.
use Rattle.std.specs.Prelude.{Result, Ok, Err}
use Rattle.fzn_model.specs.declared.error.ResolveError.{ResolveError}
use Rattle.fzn_model.specs.declared.error.ResolveError.TheVariants.{NotBuilt, Memory}

-- what is answered is of this kind, or nothing is, unless memory ran out
abbrev pub Answers : {X : Type 0} → (X → Type 0) → Result X ResolveError → Type 0
Answers P (Ok x) = P x
Answers {X} P (Err NotBuilt) = (x : X) → P x → ⊥
Answers P (Err Memory) = Unit {0}
