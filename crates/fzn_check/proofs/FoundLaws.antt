-- The one declaration of a name.
use Rattle.std.proofs.Common.{◌↔◌, ℕ, Bool, false, IsTrue, List, Option, None, Some, MatchOption, subst}
use Rattle.fzn_syntax.specs.declared.declaration.Declaration.{Declaration}
use Rattle.fzn_symbols.specs.Named.{names_of, AreDifferent, IsNamed, IsUndeclared}
use Rattle.fzn_symbols.proofs.Places.{one_named}
use Rattle.fzn_check.specs.Found.{IsOnly}

-- what is found by a name is the one declaration of it
pub found_only : {R : Type 0} (now : R → Declaration) (ds : List Declaration) (n : List ℕ) (r : Option R) → AreDifferent (names_of ds)
    → MatchOption r (IsUndeclared ds n) (λ d. IsNamed ds n (now d)) → MatchOption r (IsUndeclared ds n) (λ d. IsOnly ds n (now d))
found_only now ds n None different h = h
found_only now ds n (Some d) different h = (h, λ e other. one_named ds n (now d) e different h other)

-- a name that is not declared is not that of such a declaration
pub no_such : (P : Declaration → Type 0) (ds : List Declaration) (n : List ℕ) → IsUndeclared ds n → IsTrue false ↔ ((d : Declaration) × IsNamed ds n d × P d)
no_such P ds n none = (λ h. absurd cc, λ h. absurd (none h.0 h.1))

-- what the one declaration of a name is tells what the name is
pub one_such : (P : Declaration → Type 0) (ds : List Declaration) (n : List ℕ) (d : Declaration) (r : Bool) → IsOnly ds n d → IsTrue r ↔ P d
    → IsTrue r ↔ ((e : Declaration) × IsNamed ds n e × P e)
one_such P ds n d r only told = (λ h. (d, only.0, told.0 h), λ h. told.1 (subst P (only.1 h.0 h.1) h.2))
