-- What each step looks for, in the order of the steps.
use Rattle.std.specs.Prelude.{◌≡◌, ℕ, ◌<◌, ◌≤◌, List, Option, Some, None, Result, Ok, Err}
use Rattle.dom_limits.specs.declared.counted.Counted.TheVariants.{Variables, Constraints, ArrayEntries, ArgumentEntries, Free}
use Rattle.fzn_limits.specs.Entries.{entries_of, most_entries}
use Rattle.fzn_limits.specs.Sizes.{IsCounted, IsFirstTooMany}
use Rattle.fzn_limits.specs.Unlisted.{AreKnown, IsFirstUnknown}
use Rattle.fzn_check.specs.DeclarationFaults as declared
use Rattle.fzn_check.specs.Goals.{IsSolveFault, IsSolveFine}
use Rattle.fzn_check.specs.declared.fault.Fault.TheVariants as faults
use Rattle.fzn_lower.specs.Finding.{Step, ◌⟫◌}
use Rattle.fzn_lower.specs.declared.error.ModelError.TheVariants.{TooMany, NameTwice, UnknownName, UnknownConstraint, WrongArguments, FloatOrSet, NotBuilt, Memory}
use Rattle.fzn_symbols.specs.declared.error.NameError.TheVariants as names
use Rattle.fzn_symbols.specs.Scoped.{IsScoped}
use Rattle.fzn_check.specs.ConstraintFaults as posted
use Rattle.fzn_syntax.specs.declared.items.Items.{Items}

-- too many variables, constraints or entries of a list
abbrev pub FindsSize : Items → Step
FindsSize t None = IsCounted t (Ok tt)
FindsSize t (Some (TooMany what count)) = IsFirstTooMany t what count
FindsSize t (Some _) = ⊥

-- a name that is declared twice or nowhere
abbrev pub FindsName : Items → Step
FindsName t None = IsScoped t (Ok t.declarations)
FindsName t (Some (NameTwice at)) = IsScoped t (Err (names.NameTwice at))
FindsName t (Some (UnknownName at)) = IsScoped t (Err (names.UnknownName at))
FindsName t (Some _) = ⊥

-- a constraint that there is not
abbrev pub FindsUnknown : Items → Step
FindsUnknown t None = AreKnown t.constraints
FindsUnknown t (Some (UnknownConstraint at)) = IsFirstUnknown t.constraints at
FindsUnknown t (Some _) = ⊥

-- a declaration with a float or a set variable, or that is not well-typed
abbrev pub FindsDeclaration : Items → Step
FindsDeclaration t None = declared.IsFine t.declarations
FindsDeclaration t (Some (WrongArguments at)) = declared.IsFirstFault t.declarations (faults.IllTyped at)
FindsDeclaration t (Some (FloatOrSet at)) = declared.IsFirstFault t.declarations (faults.FloatOrSet at)
FindsDeclaration t (Some _) = ⊥

-- likewise a constraint
abbrev pub FindsConstraint : Items → Step
FindsConstraint t None = posted.IsFine t.declarations t.constraints
FindsConstraint t (Some (WrongArguments at)) = posted.IsFirstFault t.declarations t.constraints (faults.IllTyped at)
FindsConstraint t (Some (FloatOrSet at)) = posted.IsFirstFault t.declarations t.constraints (faults.FloatOrSet at)
FindsConstraint t (Some _) = ⊥

-- likewise the solve item
abbrev pub FindsSolve : Items → Step
FindsSolve t None = IsSolveFine t.declarations t.solve
FindsSolve t (Some (WrongArguments at)) = IsSolveFault t.declarations t.solve (faults.IllTyped at)
FindsSolve t (Some (FloatOrSet at)) = IsSolveFault t.declarations t.solve (faults.FloatOrSet at)
FindsSolve t (Some _) = ⊥

-- too many entries of all arrays that constraints take
abbrev pub FindsEntries : Items → Step
FindsEntries t None = entries_of t.declarations t.constraints ≤ most_entries
FindsEntries t (Some (TooMany what count)) = (what ≡ ArgumentEntries) × (count ≡ entries_of t.declarations t.constraints) × (most_entries < count)
FindsEntries t (Some _) = ⊥

-- ---- in their order

-- constraints, the goal and then entries
abbrev pub FindsConstraintOn : Items → Step
FindsConstraintOn t = FindsConstraint t ⟫ FindsSolve t ⟫ FindsEntries t

-- declarations, and then those
abbrev pub FindsDeclarationOn : Items → Step
FindsDeclarationOn t = FindsDeclaration t ⟫ FindsConstraintOn t

-- unknown constraints, and then those
abbrev pub FindsUnknownOn : Items → Step
FindsUnknownOn t = FindsUnknown t ⟫ FindsDeclarationOn t

-- names, and then those
abbrev pub FindsNameOn : Items → Step
FindsNameOn t = FindsName t ⟫ FindsUnknownOn t

-- sizes, names, unknown constraints, declarations, constraints, the goal and then entries
abbrev pub FindsFault : Items → Step
FindsFault t = FindsSize t ⟫ FindsName t ⟫ FindsUnknown t ⟫ FindsDeclaration t ⟫ FindsConstraint t ⟫ FindsSolve t ⟫ FindsEntries t
