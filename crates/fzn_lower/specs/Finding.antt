-- Steps that each find the first fault of a kind, one behind the other.
use Rattle.std.specs.Prelude.{◌≡◌, ◌⊎◌, Option, Some, None, Result, Ok, Err}
use Rattle.fzn_lower.specs.declared.error.ModelError.{ModelError}
use Rattle.fzn_lower.specs.declared.error.ModelError.TheVariants.{TooMany, NameTwice, UnknownName, UnknownConstraint, WrongArguments, FloatOrSet, CyclicDefinition, EmptyDomain, Unbounded, DomainTooLarge, TooWide, NotBuilt, Memory}

-- what a step finds: this fault, or none
abbrev pub Step : Type 1
Step = Option ModelError → Type 0

infixr 20 ◌⟫◌
-- what the first finds, or else what the second finds
abbrev pub ◌⟫◌ : Step → Step → Step
(F ⟫ G) None = F None × G None
(F ⟫ G) (Some e) = F (Some e) ⊎ (F None × G (Some e))

-- the step finds one thing at most
abbrev pub FindsOne : Step → Type 0
FindsOne F = (found other : Option ModelError) → F found → F other → found ≡ other

-- the step finds no fault, or this one, unless memory ran out; what is not built is none, and a fault of what is put together is found elsewhere
abbrev pub Finds : Step → Result (Unit {0}) ModelError → Type 0
Finds F (Ok u) = F None
Finds F (Err (TooMany what count)) = F (Some (TooMany what count))
Finds F (Err (NameTwice at)) = F (Some (NameTwice at))
Finds F (Err (UnknownName at)) = F (Some (UnknownName at))
Finds F (Err (UnknownConstraint at)) = F (Some (UnknownConstraint at))
Finds F (Err (WrongArguments at)) = F (Some (WrongArguments at))
Finds F (Err (FloatOrSet at)) = F (Some (FloatOrSet at))
Finds F (Err (CyclicDefinition x)) = ⊥
Finds F (Err (EmptyDomain x)) = ⊥
Finds F (Err (Unbounded x)) = ⊥
Finds F (Err (DomainTooLarge x count)) = ⊥
Finds F (Err (TooWide c)) = ⊥
Finds F (Err NotBuilt) = ⊥
Finds F (Err Memory) = Unit {0}
