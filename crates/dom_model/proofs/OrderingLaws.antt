-- The first place where two lists of values differ decides how they compare.
use Rattle.std.proofs.Common.{◌≡◌, Bool, refl, IsTrue}
use Rattle.std.specs.Ordering.{is_lt}
use Rattle.std.specs.declared.cmp.Ordering.{Ordering}
use Rattle.std.specs.declared.cmp.Ordering.TheVariants.{Less, Equal, Greater}

cases : (o : Ordering) → (IsTrue (is_lt o) → o ≡ Less) × (o ≡ Less → IsTrue (is_lt o))
cases Less = (λ _. refl, λ _. refl)
cases Equal = (λ h. cc, λ e. cc)
cases Greater = (λ h. cc, λ e. cc)

-- an ordering is Less exactly where `is_lt` says so
pub less_is : (o : Ordering) (r : Bool) → r ≡ is_lt o → (IsTrue r → o ≡ Less) × (o ≡ Less → IsTrue r)
less_is o r e = rw e (cases o)
