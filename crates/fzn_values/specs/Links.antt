-- Where the names in values of declarations lead.
use Rattle.std.specs.Prelude.{◌≡◌, ℕ, true, false, List, slice_get, Option, None, Some, MatchOption}
use Rattle.chains.specs.declared.link.Link.{Link}
use Rattle.chains.specs.declared.link.Link.TheVariants.{End, To, Nothing}
use Rattle.chains.specs.Chains.{link_at, end_at}
use Rattle.fzn_syntax.specs.declared.declaration.Declaration.{Declaration}
use Rattle.fzn_syntax.specs.declared.expression.Expression.{Expression}
use Rattle.fzn_symbols.specs.Named.{names_of, AreDifferent, IsPlaced, IsNamed, IsUndeclared}
use Rattle.fzn_values.specs.declared.literal.LiteralKind.{LiteralKind}
use Rattle.fzn_values.specs.declared.literal.LiteralKind.TheVariants as literals
use Rattle.fzn_values.specs.Literals.{is_literal, named_by, value_for, StandsFor}

-- where a value leads that is to stand for such a literal
abbrev pub IsValueLink : List Declaration → LiteralKind → Expression → Link → Type 0
IsValueLink ds literal v End = is_literal literal v ≡ true
IsValueLink ds literal v (To j) = (is_literal literal v ≡ false) × (n : List ℕ) × (named_by v ≡ Some n) × IsPlaced ds n j
IsValueLink ds literal v Nothing = (is_literal literal v ≡ false) × ((n : List ℕ) → named_by v ≡ Some n → IsUndeclared ds n)

-- where a declaration leads
abbrev pub IsLinkOf : List Declaration → LiteralKind → Declaration → Link → Type 0
IsLinkOf ds literal d link = MatchOption (value_for literal d) (link ≡ Nothing) (λ v. IsValueLink ds literal v link)

-- where each declaration leads
abbrev pub AreLinks : List Declaration → LiteralKind → List Link → Type 0
AreLinks ds literal links = (k : ℕ) (d : Declaration) → slice_get ds k ≡ Some d → IsLinkOf ds literal d (link_at links k)

-- the chain of names from the declaration's value ends at this place: the value that is declared there is such a literal
pub data EndsAt (ds : List Declaration) (literal : LiteralKind) : Declaration → ℕ → Type 0 where
  is_here : {d : Declaration} {k : ℕ} (l : Expression) → slice_get ds k ≡ Some d → value_for literal d ≡ Some l → is_literal literal l ≡ true → EndsAt ds literal d k
  leads_on : {d : Declaration} {k : ℕ} (v : Expression) (n : List ℕ) (next : Declaration) → value_for literal d ≡ Some v → named_by v ≡ Some n → IsNamed ds n next → EndsAt ds literal next k
      → EndsAt ds literal d k

-- the chain from the declaration's value ends at this place, or the value stands for no literal
abbrev pub IsLiteralOf : List Declaration → LiteralKind → Declaration → Option ℕ → Type 0
IsLiteralOf ds literal d None = (v l : Expression) → value_for literal d ≡ Some v → StandsFor ds literal v l → ⊥
IsLiteralOf ds literal d (Some e) = EndsAt ds literal d e

-- for each declaration where its chain ends
abbrev pub AreLiterals : List Declaration → LiteralKind → List (Option ℕ) → Type 0
AreLiterals ds literal ends = (k : ℕ) (d : Declaration) → slice_get ds k ≡ Some d → IsLiteralOf ds literal d (end_at ends k)

-- for each kind of literal these are the ends of the chains of all declarations, whose names are different
pub record AreEndsOfKinds (ds : List Declaration) (truths integers lists : List (Option ℕ)) : Type 0 where
  pub of_truths : AreLiterals ds literals.Boolean truths
  pub of_integers : AreLiterals ds literals.Integer integers
  pub of_lists : AreLiterals ds literals.List lists
  pub different : AreDifferent (names_of ds)

-- what a name stands for
abbrev pub NameStandsFor : List Declaration → LiteralKind → List ℕ → Expression → Type 0
NameStandsFor ds literal n l = (d : Declaration) × (v : Expression) × IsNamed ds n d × (value_for literal d ≡ Some v) × StandsFor ds literal v l

-- the chain of names from this one ends at the list that is declared at this place
abbrev pub NamesListAt : List Declaration → List ℕ → ℕ → Type 0
NamesListAt ds n k = (d : Declaration) × IsNamed ds n d × EndsAt ds literals.List d k
