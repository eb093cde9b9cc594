-- The model of items, or their first fault.
use Rattle.std.specs.Prelude.{◌≡◌, ◌⊎◌, Some, None, Result, Ok, Err}
use Rattle.dom_model.specs.Draft.{Draft}
use Rattle.dom_model.specs.Finished.{Finishes, IsBuildFault, IsFinished}
use Rattle.dom_model.specs.Problem.{Problem}
use Rattle.dom_model.specs.declared.error.BuildError.{BuildError}
use Rattle.dom_model.specs.declared.error.BuildError.TheVariants as build
use Rattle.fzn_lower.specs.Finding.{Step}
use Rattle.fzn_lower.specs.Steps.{FindsFault}
use Rattle.fzn_lower.specs.declared.error.ModelError.{ModelError}
use Rattle.fzn_lower.specs.declared.error.ModelError.TheVariants.{TooMany, NameTwice, UnknownName, UnknownConstraint, WrongArguments, FloatOrSet, CyclicDefinition, EmptyDomain, Unbounded, DomainTooLarge, TooWide, NotBuilt, Memory}
use Rattle.fzn_model.specs.Drafts.{Drafts}
use Rattle.fzn_syntax.specs.declared.items.Items.{Items}
use Rattle.fzn_totality.specs.Totality.{HasUnbuilt}

-- the fault of items, by that of what they are put together as
abbrev pub told : BuildError → ModelError
told (build.CyclicDefinition x) = CyclicDefinition x
told (build.EmptyDomain x) = EmptyDomain x
told (build.Unbounded x) = Unbounded x
told (build.DomainTooLarge x count) = DomainTooLarge x count
told (build.TooMany what count) = TooMany what count
told (build.TooWide c) = TooWide c
told build.Memory = Memory

-- the answer over items, by that over what they are put together as
abbrev pub answer_told : Result Problem BuildError → Result Problem ModelError
answer_told (Ok p) = Ok p
answer_told (Err e) = Err (told e)

-- the model is that of what the items are put together as
pub record HasModel (t : Items) (p : Problem) : Type 0 where
  pub draft : Draft
  pub put : Drafts t draft
  pub finished : IsFinished draft p

-- what the items are put together as has this first fault
pub record HasBuildFault (t : Items) (e : BuildError) : Type 0 where
  pub draft : Draft
  pub put : Drafts t draft
  pub fault : IsBuildFault draft e

-- the step finds nothing and this is the model, or the first fault of what the items are put together as, or one of the constraints isn't
-- built; or the step finds this fault
abbrev pub Lowers : Step → Items → Result Problem ModelError → Type 0
Lowers F t (Ok p) = F None × HasModel t p
Lowers F t (Err (TooMany what count)) = F (Some (TooMany what count)) ⊎ (F None × HasBuildFault t (build.TooMany what count))
Lowers F t (Err (NameTwice at)) = F (Some (NameTwice at))
Lowers F t (Err (UnknownName at)) = F (Some (UnknownName at))
Lowers F t (Err (UnknownConstraint at)) = F (Some (UnknownConstraint at))
Lowers F t (Err (WrongArguments at)) = F (Some (WrongArguments at))
Lowers F t (Err (FloatOrSet at)) = F (Some (FloatOrSet at))
Lowers F t (Err (CyclicDefinition x)) = F None × HasBuildFault t (build.CyclicDefinition x)
Lowers F t (Err (EmptyDomain x)) = F None × HasBuildFault t (build.EmptyDomain x)
Lowers F t (Err (Unbounded x)) = F None × HasBuildFault t (build.Unbounded x)
Lowers F t (Err (DomainTooLarge x count)) = F None × HasBuildFault t (build.DomainTooLarge x count)
Lowers F t (Err (TooWide c)) = F None × HasBuildFault t (build.TooWide c)
Lowers F t (Err NotBuilt) = F None × HasUnbuilt t.constraints
Lowers F t (Err Memory) = Unit {0}

-- nothing is wrong and this is the model of the items, or the fault of what they are put together as, or one of the constraints isn't
-- built; or this is the first fault
abbrev pub IsLowered : Items → Result Problem ModelError → Type 0
IsLowered t r = Lowers (FindsFault t) t r

-- what was put together is finished as a model, or has a first fault that is told so
abbrev pub Ends : Draft → Result Problem ModelError → Type 0
Ends d r = (q : Result Problem BuildError) × Finishes d q × (r ≡ answer_told q)

-- items have one answer, want of memory aside
abbrev pub HasOneAnswer : Type 0
HasOneAnswer =
    (t : Items) (one other : Result Problem ModelError) → IsLowered t one → IsLowered t other → (one ≡ Err Memory → ⊥) → (other ≡ Err Memory → ⊥) → one ≡ other
