-- Restrictions of defined variables to what their declarations allow.
use Rattle.std.specs.Prelude.{◌≡◌, Option, Some, None, List, [], ◌∷◌, ◌++◌, ℕ, suc, pos}
use Rattle.any_kind.specs.declared.any.AnyKind.{AnyKind}
use Rattle.any_kind.specs.declared.any.AnyKind.TheVariants as kinds
use Rattle.dom_core.specs.declared.arg.Arg.TheVariants.{Var}
use Rattle.dom_core.specs.declared.set.Set.{Set}
use Rattle.dom_core.specs.declared.set.Set.TheVariants as sets
use Rattle.dom_definers.specs.declared.form.Declared.{Declared}
use Rattle.dom_definers.specs.declared.form.Declared.TheVariants.{Any, Range, Values}
use Rattle.dom_definers.specs.declared.form.Form.{Form}
use Rattle.dom_definers.specs.declared.form.Form.TheVariants.{Bool as Truths, Int}
use Rattle.dom_definers.specs.declared.variable.Variable.{Variable}
use Rattle.dom_domains.specs.Allowed.{rising}
use Rattle.kind_parts.specs.Set.{IsPlainOf, IsSorted}

-- the set of the integers that are allowed, where any are declared
abbrev pub integer_set : Declared → Option Set
integer_set Any = None
integer_set (Range lo hi) = Some (sets.Range lo hi)
integer_set (Values vs) = Some (sets.Values (rising vs))

-- the set of the values of a form that are allowed
abbrev pub form_set : Form → Declared → Option Set
form_set Truths d = Some (sets.Range (pos 0) (pos 1))
form_set Int d = integer_set d

-- the set of the values that the variable's declaration allows; none where it allows every integer
abbrev pub set_of : Variable → Option Set
set_of v = form_set v.form v.declared

-- the set, where there is one, lists rising values or is a range
abbrev pub IsSortedSome : Option Set → Type 0
IsSortedSome None = Unit {0}
IsSortedSome (Some s) = IsSorted s

-- the constraint restricts the variable with this number to the set
abbrev pub IsRestriction : ℕ → Set → AnyKind → Type 0
IsRestriction n s (kinds.InSet r) = (r.arg ≡ Var (record { 0 = n })) × IsPlainOf s r.set
IsRestriction n s k = ⊥

-- the list begins with the restriction to the set, where there is one, and what is behind it meets this
abbrev pub IsRestrictedBy : ℕ → Option Set → (List AnyKind → Type 0) → List AnyKind → Type 0
IsRestrictedBy n None P ks = P ks
IsRestrictedBy n (Some s) P [] = ⊥
IsRestrictedBy n (Some s) P (k ∷ ks) = IsRestriction n s k × P ks

-- the set of a variable with this definer; a free one needs no restriction
abbrev pub restricting_set : Variable → Option ℕ → Option Set
restricting_set v None = None
restricting_set v (Some i) = set_of v

-- the restrictions of the defined variables in order, the first of which has this number
abbrev pub AreRestrictionsFrom : ℕ → List Variable → List (Option ℕ) → List AnyKind → Type 0
AreRestrictionsFrom n [] ds ks = ks ≡ []
AreRestrictionsFrom n (v ∷ vs) [] ks = ⊥
AreRestrictionsFrom n (v ∷ vs) (d ∷ ds) ks = IsRestrictedBy n (restricting_set v d) (AreRestrictionsFrom (suc n) vs ds) ks

-- the restrictions of the defined variables with a declared domain, in order
abbrev pub AreRestrictions : List Variable → List (Option ℕ) → List AnyKind → Type 0
AreRestrictions vs ds ks = AreRestrictionsFrom 0 vs ds ks

-- the second list begins with the first
abbrev pub BeginsWith : List AnyKind → List AnyKind → Type 0
BeginsWith front whole = (rest : List AnyKind) × (whole ≡ front ++ rest)

-- the second list has the restriction to the set, where there is one, behind the first
abbrev pub AddsRestriction : ℕ → Option Set → List AnyKind → List AnyKind → Type 0
AddsRestriction n None old new = new ≡ old
AddsRestriction n (Some s) old new = (k : AnyKind) × IsRestriction n s k × (new ≡ old ++ k ∷ [])

-- the second list has the restrictions behind the first
pub record AddsRestrictions (vs : List Variable) (ds : List (Option ℕ)) (old new : List AnyKind) : Type 0 where
  pub restrictions : List AnyKind
  pub are_restrictions : AreRestrictions vs ds restrictions
  pub behind : new ≡ old ++ restrictions
