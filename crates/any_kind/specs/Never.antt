-- What stands in place of a function for a kind that never defines a variable.
use Rattle.std.proofs.Common.{◌≡◌, Bool, true, false, List, [], ℕ, ℤ, pos, refl, arith}
use Rattle.std.proofs.lemmas.Int.{ints}
use Rattle.dom_core.specs.Ends.{Ends, only}
use Rattle.dom_core.specs.declared.var_id.VarId.{VarId}
use Rattle.dom_core.specs.declared.view.Movement.{Movement}
use Rattle.kind_law.specs.Laws.{AreAmong, FitsLaw}
use Rattle.kind_law.specs.DefineLaws.{InputLaw, RangeLaw, MonotoneLaw, OwnChangeLaw}

-- no variable is its output; the first one stands there
abbrev pub never_output : VarId
never_output = record { 0 = 0 }

-- nothing is asked of its inputs
abbrev pub NeverFits : (ℕ → Ends) → Type 0
NeverFits s = Unit {0}

-- its value is 0 everywhere
abbrev pub never_defined : (ℕ → Ends) → Bool
never_defined s = true

-- its value
abbrev pub never_given : List ℤ → ℤ
never_given a = pos 0

-- its range
abbrev pub never_ranged : (ℕ → Ends) → Ends
never_ranged s = only (pos 0)

-- its own change
abbrev pub never_own_change : List Movement → Ends
never_own_change view = only (pos 0)

-- what holds of a kind that defines a variable
pub never : (P : Type 0) → false ≡ true → P
never P h = absurd (cc)

pub never-inputs : FitsLaw [] NeverFits
never-inputs small large within fits = tt

pub never-among : (vars : List VarId) → AreAmong [] vars
never-among vars = tt

pub never-input : InputLaw [] never_given
never-input a b same = refl

pub never-range : RangeLaw [] never_given never_ranged
never-range a s h = refl

pub never-monotone : MonotoneLaw [] never_ranged
never-monotone small large h = record { low = omega (arith, ints); order = omega (arith, ints); high = omega (arith, ints) }

pub never-own_change : OwnChangeLaw [] never_given never_own_change
never-own_change view a b h = refl
