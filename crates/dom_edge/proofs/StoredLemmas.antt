-- Folders over files that are held in memory.
use Rattle.std.proofs.Common.{◌≡◌, ℕ, List, Option, Result, OnErr, ap}
use Rattle.std.proofs.lemmas.Result.{on_err_weaker}

-- what is told of the files of each name
abbrev told : (Option (List ℕ) → Option (Option (List ℕ))) → (List ℕ → Option (List ℕ)) → List ℕ → Option (Option (List ℕ))
told tell files name = tell (files name)

-- a folder tells the same of every file where the files stayed on an error
pub told_same : {T E : Type 0} (r : Result T E) (old new : List ℕ → Option (List ℕ)) (tell : Option (List ℕ) → Option (Option (List ℕ))) → OnErr r (new ≡ old) → OnErr r (told tell new ≡ told tell old)
told_same r old new tell kept = on_err_weaker r (λ (same : new ≡ old). ap (told tell) same) kept
