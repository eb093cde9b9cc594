-- The laws of a kind that gives one of its variables its value.
use Rattle.std.specs.Prelude.{◌≡◌, ◌==◌, ◌||◌, ◌≤◌, ◌^◌, ◌-ℤ◌, Bool, true, not, if◌then◌else◌, List, ℕ, ℤ, pos, int_le}
use Rattle.std.specs.Ordering.{int_eq}
use Rattle.dom_core.specs.Assignment.{entry_at, value_at}
use Rattle.dom_cells.specs.Cell.{lo_of, hi_of, ends_of, IsSane}
use Rattle.dom_core.specs.Ends.{Ends, IsOrdered, lies_in, only, meet_ends, difference_ends}
use Rattle.dom_core.specs.View.{movement_at}
use Rattle.dom_cells.specs.declared.start.Start.{Start}
use Rattle.dom_core.specs.declared.var_id.VarId.{VarId}
use Rattle.dom_core.specs.declared.view.Movement.{Movement}
use Rattle.kind_law.specs.Argument.{is_listed}
use Rattle.kind_law.specs.Laws.{Each, AllSane, AreAmong, AreSmall, AreWithin, EndsIn, Covers, points, befores, afters, IsTrueChange, all_still}

-- the output is none of the inputs
abbrev pub ApartLaw : VarId → List VarId → Type 0
ApartLaw output inputs = Each (λ u. u.0 ≡ output.0 → ⊥) inputs

-- the variables are the inputs and the output
pub record ArePartsOf (output : VarId) (inputs vars : List VarId) : Type 0 where
  pub own : is_listed output vars ≡ true
  pub others : AreAmong inputs vars
  pub all : Each (λ v. (v.0 == output.0 || is_listed v inputs) ≡ true) vars

-- where the intervals fit and the function has a value at all inputs within them, the inputs fit
abbrev pub PassLaw : ((ℕ → Ends) → Type 0) → ((ℕ → Ends) → Bool) → ((ℕ → Ends) → Type 0) → Type 0
PassLaw fits defined fits_inputs = (s : ℕ → Ends) → fits s → defined s ≡ true → fits_inputs s

-- where the inputs' intervals are small, the function has a value at all inputs within them and its sum or product is no
-- larger than 2 ^ 100, the inputs fit
abbrev pub InputWidthLaw : List VarId → ((ℕ → Ends) → ℕ) → ((ℕ → Ends) → Bool) → ((ℕ → Ends) → Type 0) → Type 0
InputWidthLaw inputs size defined fits_inputs = (s : ℕ → Ends) → AreSmall inputs s → size s ≤ 2 ^ 100 → defined s ≡ true → fits_inputs s

-- the kind is met exactly where the output has the value that the inputs give
abbrev pub ValueLaw : VarId → ((ℕ → Ends) → Type 0) → (List ℤ → ℤ) → (List ℤ → Bool) → Type 0
ValueLaw output fits_inputs given met = (a : List ℤ) → fits_inputs (points a) → met a ≡ int_eq (value_at a output) (given a)

-- the value reads the inputs alone
abbrev pub InputLaw : List VarId → (List ℤ → ℤ) → Type 0
InputLaw inputs given = (a b : List ℤ) → Each (λ u. entry_at a u.0 ≡ entry_at b u.0) inputs → given a ≡ given b

-- whether the function has a value reads the intervals of the inputs alone
abbrev pub DefinedLaw : List VarId → ((ℕ → Ends) → Bool) → Type 0
DefinedLaw inputs defined = (s t : ℕ → Ends) → Each (λ u. s u.0 ≡ t u.0) inputs → defined s ≡ defined t

-- the range covers every value that inputs within the intervals give
abbrev pub RangeLaw : List VarId → (List ℤ → ℤ) → ((ℕ → Ends) → Ends) → Type 0
RangeLaw inputs given ranged = (a : List ℤ) (s : ℕ → Ends) → Each (λ u. lies_in (entry_at a u.0) (s u.0) ≡ true) inputs
    → lies_in (given a) (ranged s) ≡ true

-- the range over smaller intervals lies in the range over larger ones
abbrev pub MonotoneLaw : List VarId → ((ℕ → Ends) → Ends) → Type 0
MonotoneLaw inputs ranged = (small large : ℕ → Ends) → AreWithin inputs small large → EndsIn (ranged small) (ranged large)

-- the change of the value lies in the own change
abbrev pub OwnChangeLaw : List VarId → (List ℤ → ℤ) → (List Movement → Ends) → Type 0
OwnChangeLaw inputs given row = (view : List Movement) (a b : List ℤ) → Covers view inputs a b → lies_in (given b -ℤ given a) (row view) ≡ true

-- the change of the value lies in the change that the view gives
abbrev pub ChangeLaw : List VarId → (List ℤ → ℤ) → (List Movement → Ends) → Type 0
ChangeLaw inputs given changed = (view : List Movement) (a b : List ℤ) → Covers view inputs a b → lies_in (given b -ℤ given a) (changed view) ≡ true

-- each of the variables has the value of the assignment alone
abbrev pub AreFixed : (ℕ → Start) → List VarId → List ℤ → Type 0
AreFixed b vars a = Each (λ u. (lo_of (b u.0) ≡ entry_at a u.0) × (hi_of (b u.0) ≡ entry_at a u.0)) vars

-- where the inputs are fixed, the box is refuted exactly where the output's interval doesn't hold the value that they give
abbrev pub FixesLaw : VarId → List VarId → ((ℕ → Ends) → Type 0) → (List ℤ → ℤ) → ((ℕ → Start) → Bool) → Type 0
FixesLaw output inputs fits_inputs given refuted = (b : ℕ → Start) (a : List ℤ) → AreFixed b inputs a → AllSane b inputs → fits_inputs (points a) → IsSane (b output.0)
    → refuted b ≡ not (lies_in (given a) (ends_of (b output.0)))

-- the integers in both, or those of the second where there are none
abbrev pub met_or_second : Ends → Ends → Ends
met_or_second a b = if int_le (meet_ends a b).lo (meet_ends a b).hi then meet_ends a b else b

-- the change of a defined variable: 0 where no input moves, else what its own change and its ranges before and
-- after both allow
abbrev pub changed_by : Bool → Ends → Ends → Ends → Ends
changed_by still row before after = if still then only (pos 0) else met_or_second row (difference_ends after before)

-- the change that a view gives the output
abbrev pub changed_of : List VarId → ((ℕ → Ends) → Ends) → (List Movement → Ends) → List Movement → Ends
changed_of inputs ranged row view = changed_by (all_still inputs view) (row view) (ranged (befores view)) (ranged (afters view))

-- values before and after, and changes between them
pub record IsReal (m : Movement) : Type 0 where
  pub before : IsOrdered m.before
  pub after : IsOrdered m.after
  pub change : IsTrueChange m

-- the change lies between the ranges before and after
abbrev pub TrueLaw : List VarId → ((ℕ → Ends) → Ends) → (List Movement → Ends) → Type 0
TrueLaw inputs ranged changed = (view : List Movement) → Each (λ u. IsReal (movement_at view u.0)) inputs
    → EndsIn (changed view) (difference_ends (ranged (afters view)) (ranged (befores view)))

-- where the view moves none of the inputs, the value doesn't change
abbrev pub RestLaw : List VarId → (List Movement → Ends) → Type 0
RestLaw inputs changed = (view : List Movement) → all_still inputs view ≡ true → changed view ≡ only (pos 0)
