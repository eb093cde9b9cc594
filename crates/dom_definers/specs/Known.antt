-- Every hull is known where no variable and no constraint is at fault.
use Rattle.std.specs.Prelude.{◌≡◌, ◌<◌, true, Option, None, List, ℕ, length, map, slice_get}
use Rattle.digraph.specs.Order.{IsOrder}
use Rattle.dom_core.specs.Ends.{Ends}
use Rattle.dom_definers.specs.Definers.{AreDefiners, definer_at, dependence}
use Rattle.dom_definers.specs.Hulls.{AreFitDefiners, AreHulls, declared_or_none, hull_at, is_known, kept_definer}
use Rattle.dom_definers.specs.Width.{AreFitFrom, wide_from}
use Rattle.dom_definers.specs.declared.posted.Posted.{Posted}
use Rattle.dom_definers.specs.declared.variable.Variable.{Variable}

-- the definers that stay
abbrev pub kept_of : List Posted → List (Option Ends) → List (Option ℕ) → List (Option ℕ)
kept_of cs hs ds = map (kept_definer cs hs) ds

-- definitions in an order, and their hulls
pub record AreSolved (vs : List Variable) (cs : List Posted) (ds : List (Option ℕ)) (order : List ℕ) (hs : List (Option Ends)) : Type 0 where
  pub definers : AreDefiners cs (length vs) ds
  pub fit : AreFitDefiners (length vs) cs ds
  pub is_order : IsOrder (dependence cs ds) order
  pub hulls : AreHulls vs cs ds hs
  pub gives : AreFitFrom (length vs) 0 cs (kept_of cs hs ds)

-- each variable without a definer is declared with a hull
abbrev pub AreDeclared : List Variable → List (Option ℕ) → Type 0
AreDeclared vs ds = (v : ℕ) → v < length vs → definer_at ds v ≡ None → is_known (declared_or_none (slice_get vs v)) ≡ true

-- where each free variable is declared with a hull and no constraint is too wide, every variable has a hull
abbrev pub EveryHullIsKnown : Type 0
EveryHullIsKnown =
    (vs : List Variable) (cs : List Posted) (ds : List (Option ℕ)) (order : List ℕ) (hs : List (Option Ends)) → AreSolved vs cs ds order hs
    → AreDeclared vs (kept_of cs hs ds) → wide_from 0 cs (kept_of cs hs ds) hs ≡ None → (v : ℕ) → v < length vs → is_known (hull_at hs v) ≡ true
