-- Which constraints are built: those that are posted right have kinds, and items without a fault are put together where all of them are.
use Rattle.std.specs.Prelude.{◌≡◌, ℕ, List, slice_get, Some}
use Rattle.any_kind.specs.declared.any.AnyKind.{AnyKind}
use Rattle.dom_model.specs.Draft.{Draft}
use Rattle.fzn_check.specs.ConstraintFaults as constraints
use Rattle.fzn_check.specs.DeclarationFaults.{IsFine}
use Rattle.fzn_check.specs.Goals.{IsSolveFine}
use Rattle.fzn_check.specs.Posted.{IsPosted}
use Rattle.fzn_forms.specs.Kinds.{IsKindOf}
use Rattle.fzn_limits.specs.Unlisted.{AreKnown}
use Rattle.fzn_model.specs.Drafts.{Drafts}
use Rattle.fzn_signatures.specs.Table.{Entry, IsEntryOf}
use Rattle.fzn_signatures.specs.declared.shape.Shape.{Shape}
use Rattle.fzn_signatures.specs.declared.shape.Shape.TheVariants as shapes
use Rattle.fzn_symbols.specs.Named.{names_of, AreDifferent}
use Rattle.fzn_syntax.specs.Texts.{AreOfText}
use Rattle.fzn_syntax.specs.declared.constraint.Constraint.{Constraint}
use Rattle.fzn_syntax.specs.declared.declaration.Declaration.{Declaration}
use Rattle.fzn_syntax.specs.declared.items.Items.{Items}

-- constraints of this shape are built
abbrev pub IsBuilt : Shape → Type 0
IsBuilt (shapes.Linear r) = Unit {0}
IsBuilt (shapes.LinearReified r) = Unit {0}
IsBuilt (shapes.Compared c) = Unit {0}
IsBuilt (shapes.ComparedReified c) = Unit {0}
IsBuilt shapes.Negation = Unit {0}
IsBuilt shapes.Conversion = Unit {0}
IsBuilt shapes.Sum = Unit {0}
IsBuilt shapes.Clause = Unit {0}
IsBuilt shapes.ClauseReified = Unit {0}
IsBuilt shapes.Conjunction = Unit {0}
IsBuilt shapes.Disjunction = Unit {0}
IsBuilt shapes.And = Unit {0}
IsBuilt shapes.Or = Unit {0}
IsBuilt shapes.Xor = Unit {0}
IsBuilt shape = ⊥

-- where names are different and no declaration is at fault, it isn't so that a constraint that is posted right, and whose shape is built, has no kind
abbrev pub HasKind : Type 0
HasKind =
    (ds : List Declaration) (c : Constraint) → AreDifferent (names_of ds) → IsFine ds → (posted : IsPosted ds c) → IsBuilt posted.0.shape → ((k : AnyKind) → IsKindOf ds c k → ⊥) → ⊥

-- the constraint's name stands in the table with a shape that isn't built
abbrev pub IsUnbuilt : Constraint → Type 0
IsUnbuilt c = (e : Entry) × IsEntryOf c.name.name e × (IsBuilt e.shape → ⊥)

-- one of the constraints is such
abbrev pub HasUnbuilt : List Constraint → Type 0
HasUnbuilt cs = (k : ℕ) × (c : Constraint) × (slice_get cs k ≡ Some c) × IsUnbuilt c

-- the items are in no way put together
abbrev pub IsUndrafted : Items → Type 0
IsUndrafted t = (d : Draft) → Drafts t d → ⊥

-- the items are those of a text; their names are different and those of constraints known, and no declaration, no constraint and no goal is at fault
pub record AreRight (t : Items) : Type 0 where
  pub text : AreOfText t
  pub different : AreDifferent (names_of t.declarations)
  pub known : AreKnown t.constraints
  pub declared : IsFine t.declarations
  pub posted : constraints.IsFine t.declarations t.constraints
  pub asked : IsSolveFine t.declarations t.solve

-- right items that are in no way put together have a constraint that isn't built
abbrev pub UndraftedLaw : Type 0
UndraftedLaw = (t : Items) → AreRight t → IsUndrafted t → HasUnbuilt t.constraints

-- items with a constraint that isn't built are in no way put together
abbrev pub UnbuiltLaw : Type 0
UnbuiltLaw = (t : Items) → HasUnbuilt t.constraints → IsUndrafted t
