-- Definers and hulls are determined.
use Rattle.std.specs.Prelude.{◌≡◌, Option, List, ℕ, length}
use Rattle.digraph.specs.Order.{IsOrder}
use Rattle.dom_core.specs.Ends.{Ends}
use Rattle.dom_definers.specs.Definers.{AreDefiners, dependence}
use Rattle.dom_definers.specs.Hulls.{AreHulls}
use Rattle.dom_definers.specs.declared.posted.Posted.{Posted}
use Rattle.dom_definers.specs.declared.variable.Variable.{Variable}

-- constraints have one list of definers
abbrev pub DefinersAreOne : Type 0
DefinersAreOne = (cs : List Posted) (n : ℕ) (one other : List (Option ℕ)) → AreDefiners cs n one → AreDefiners cs n other → one ≡ other

-- definitions in an order have one list of hulls
abbrev pub HullsAreOne : Type 0
HullsAreOne =
    (vs : List Variable) (cs : List Posted) (ds : List (Option ℕ)) (order : List ℕ) (one other : List (Option Ends)) → length ds ≡ length vs
    → IsOrder (dependence cs ds) order → AreHulls vs cs ds one → AreHulls vs cs ds other → one ≡ other
