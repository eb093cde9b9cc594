-- Searches.
use Rattle.std.proofs.Common.{◌↔◌, Option, None, Some, MatchOption, IsTrue, is_some, refl}

-- a search finds something exactly where there is something
pub finds : {X Y : Type 0} (r : Option X) (P : Y → Type 0) (shown : X → Y) → MatchOption r ((y : Y) → P y → ⊥) (λ x. P (shown x)) → IsTrue (is_some r) ↔ ((y : Y) × P y)
finds None P shown h = (λ e. absurd cc, λ g. absurd (h g.0 g.1))
finds (Some x) P shown h = (λ e. (shown x, h), λ g. refl)
