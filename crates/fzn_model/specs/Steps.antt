-- What steps add to what is put together.
use Rattle.std.specs.Prelude.{◌≡◌, ℕ, Bool, List, [], ◌∷◌, ◌++◌, Option, Result, Ok, Err}
use Rattle.any_kind.specs.declared.any.AnyKind.{AnyKind}
use Rattle.dom_definers.specs.declared.posted.Posted.{Posted}
use Rattle.dom_model.specs.Draft.{Draft}
use Rattle.dom_model.specs.declared.output.Output.{Output}
use Rattle.fzn_forms.specs.Kinds.{IsKindOf}
use Rattle.fzn_model.specs.Defining.{with_defined}
use Rattle.fzn_model.specs.Found.{listed}
use Rattle.fzn_model.specs.Outputs.{AreOutputs}
use Rattle.fzn_model.specs.Posting.{AreInitial, ArePosted, initialised, IsInitial, IsPosted}
use Rattle.fzn_model.specs.declared.error.ResolveError.{ResolveError}
use Rattle.fzn_model.specs.declared.error.ResolveError.TheVariants.{NotBuilt, Memory}
use Rattle.fzn_syntax.specs.declared.constraint.Constraint.{Constraint}
use Rattle.fzn_syntax.specs.declared.declaration.Declaration.{Declaration}

-- the draft with these outputs behind its own
abbrev pub with_outputs : Draft → List Output → Draft
with_outputs d os = record d { outputs = d.outputs ++ os }

-- the draft with these constraints behind its own
abbrev pub with_constraints : Draft → List Posted → Draft
with_constraints d ps = record d { constraints = d.constraints ++ ps }

-- what is printed of the declarations is put behind the rest, or some is not built
abbrev pub AreMarked : List Declaration → Draft → Draft → Result (Unit {0}) ResolveError → Type 0
AreMarked ds old new (Ok u) = (os : List Output) × AreOutputs ds 0 ds os × (new ≡ with_outputs old os)
AreMarked ds old new (Err NotBuilt) = (os : List Output) → AreOutputs ds 0 ds os → ⊥
AreMarked ds old new (Err Memory) = Unit {0}

-- what the item posts is put behind the rest, with which variables are defined before and after it; or it is not built
abbrev pub IsPostedNext : List Declaration → List Bool → Draft → Constraint → List Bool → Draft → Result (Unit {0}) ResolveError → Type 0
IsPostedNext ds before old c after new (Ok u) = (p : Posted) × IsPosted ds before c p × (after ≡ with_defined before p.defines) × (new ≡ with_constraints old (p ∷ []))
IsPostedNext ds before old c after new (Err NotBuilt) = (k : AnyKind) → IsKindOf ds c k → ⊥
IsPostedNext ds before old c after new (Err Memory) = Unit {0}

-- what the items post is put behind the rest, or some is not built
abbrev pub AreWritten : List Declaration → List Constraint → Draft → Draft → Result (Unit {0}) ResolveError → Type 0
AreWritten ds cs old new (Ok u) = (ps : List Posted) × ArePosted ds (initialised ds) cs ps × (new ≡ with_constraints old ps)
AreWritten ds cs old new (Err NotBuilt) = (ps : List Posted) → ArePosted ds (initialised ds) cs ps → ⊥
AreWritten ds cs old new (Err Memory) = Unit {0}

-- the equation of one declaration is put behind the rest where there is one, or it is not built
abbrev pub IsInitialNext : List Declaration → ℕ → Declaration → Draft → Draft → Result (Unit {0}) ResolveError → Type 0
IsInitialNext ds i d old new (Ok u) = (r : Option Posted) × IsInitial ds i d r × (new ≡ with_constraints old (listed r))
IsInitialNext ds i d old new (Err NotBuilt) = (r : Option Posted) → IsInitial ds i d r → ⊥
IsInitialNext ds i d old new (Err Memory) = Unit {0}

-- the equations of initialisers are put behind the rest, or some is not built
abbrev pub AreEquated : List Declaration → Draft → Draft → Result (Unit {0}) ResolveError → Type 0
AreEquated ds old new (Ok u) = (ps : List Posted) × AreInitial ds 0 ds ps × (new ≡ with_constraints old ps)
AreEquated ds old new (Err NotBuilt) = (ps : List Posted) → AreInitial ds 0 ds ps → ⊥
AreEquated ds old new (Err Memory) = Unit {0}
