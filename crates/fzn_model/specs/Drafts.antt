-- What items are to be put together as.
use Rattle.std.specs.Prelude.{◌≡◌, ◌≤◌, List, ◌++◌, length, All, Result, Ok, Err}
use Rattle.dom_definers.specs.declared.posted.Posted.{Posted}
use Rattle.dom_model.specs.Draft.{Draft}
use Rattle.fzn_limits.specs.Sizes.{limit, variables_in}
use Rattle.fzn_model.specs.Goals.{IsAsked}
use Rattle.fzn_model.specs.Outputs.{AreOutputs}
use Rattle.fzn_model.specs.Posting.{AreInitial, ArePosted, initialised}
use Rattle.fzn_model.specs.Variables.{IsBuilt, variables_of}
use Rattle.fzn_model.specs.declared.error.ResolveError.{ResolveError}
use Rattle.fzn_model.specs.declared.error.ResolveError.TheVariants.{NotBuilt, Memory}
use Rattle.fzn_symbols.specs.Named.{names_of, AreDifferent}
use Rattle.fzn_syntax.specs.declared.items.Items.{Items}

-- the items have few variables and few constraints
pub record AreFew (t : Items) : Type 0 where
  pub variables : variables_in t.declarations ≤ limit
  pub constraints : length t.constraints ≤ limit

-- the parts are what the items declare, post, ask and mark: of the constraints first the written ones, and then the equations of
-- initialisers
pub record Drafts (t : Items) (d : Draft) : Type 0 where
  pub built : All IsBuilt t.declarations
  pub variables : d.variables ≡ variables_of t.declarations
  pub written : List Posted
  pub initial : List Posted
  pub posted : ArePosted t.declarations (initialised t.declarations) t.constraints written
  pub equated : AreInitial t.declarations 0 t.declarations initial
  pub constraints : d.constraints ≡ written ++ initial
  pub goal : IsAsked t.declarations t.solve.goal d.goal
  pub outputs : AreOutputs t.declarations 0 t.declarations d.outputs

-- they are put together so, or in no way
abbrev pub IsDrafted : Items → Draft → Result (Unit {0}) ResolveError → Type 0
IsDrafted t new (Ok u) = Drafts t new
IsDrafted t new (Err NotBuilt) = (d : Draft) → Drafts t d → ⊥
IsDrafted t new (Err Memory) = Unit {0}

-- items whose names are different are put together in one way at most
abbrev pub DraftsOne : Type 0
DraftsOne = (t : Items) (c d : Draft) → AreDifferent (names_of t.declarations) → Drafts t c → Drafts t d → c ≡ d
