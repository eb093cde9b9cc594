-- What the answer for the marks of items says of the items.
use Rattle.std.proofs.Common.{◌≡◌, ℕ, List, Result, Ok, Err, sym, ◌∙◌, ap, subst}
use Rattle.fzn_symbols.specs.declared.error.NameError.{NameError}
use Rattle.fzn_symbols.specs.declared.error.NameError.TheVariants.{NameTwice, UnknownName, Memory}
use Rattle.fzn_symbols.specs.Numbered.{Mark, IsNumbered}
use Rattle.fzn_symbols.specs.Occurrences.{marks_of}
use Rattle.fzn_symbols.specs.Scoped.{IsScoped, IsFaultless}
use Rattle.fzn_symbols.proofs.Declared.{declared_different}
use Rattle.fzn_symbols.proofs.Declaring.{items_declare}
use Rattle.fzn_symbols.specs.Named.{AreDifferent, names_of}
use Rattle.fzn_syntax.specs.declared.declaration.Declaration.{Declaration}
use Rattle.fzn_syntax.specs.declared.items.Items.{Items}

pub names_told : (items : Items) (names : List (List ℕ)) → IsNumbered (marks_of items) (Ok names) → names ≡ names_of items.declarations
names_told items names told = told.0 ∙ items_declare items

pub different : (items : Items) → IsFaultless (marks_of items) → AreDifferent (names_of items.declarations)
different items faultless = subst AreDifferent (items_declare items) (declared_different (marks_of items) faultless)

pub fault_told : (items : Items) (e : NameError) → IsNumbered (marks_of items) (Err e) → IsScoped items (Err e)
fault_told items (NameTwice at) told = told
fault_told items (UnknownName at) told = told
fault_told items Memory told = tt

-- ---- one answer

-- the same answer, of the declared names
abbrev names_of_answer : Items → Result (List Declaration) NameError → Result (List (List ℕ)) NameError
names_of_answer items (Ok ds) = Ok (names_of items.declarations)
names_of_answer items (Err e) = Err e

numbered : (items : Items) (r : Result (List Declaration) NameError) → IsScoped items r → IsNumbered (marks_of items) (names_of_answer items r)
numbered items (Ok ds) told = (sym (items_declare items), told.2)
numbered items (Err (NameTwice at)) told = told
numbered items (Err (UnknownName at)) told = told
numbered items (Err Memory) told = tt

-- an answer of one kind is none of the other
mixed : {X : Type 0} (x : X) (e : NameError) → Ok x ≡ Err e → ⊥
mixed x e is = absurd cc

not_memory : (items : Items) (r : Result (List Declaration) NameError) → (r ≡ Err Memory → ⊥) → names_of_answer items r ≡ Err Memory → ⊥
not_memory items (Ok ds) not e = mixed (names_of items.declarations) Memory e
not_memory items (Err f) not e = let is : f ≡ Memory = cc in not (ap (λ x. Err x) is)

same : (items : Items) (r s : Result (List Declaration) NameError) → IsScoped items r → IsScoped items s → names_of_answer items r ≡ names_of_answer items s → r ≡ s
same items (Ok a) (Ok b) told again e = ap Ok (told.0 ∙ sym again.0)
same items (Ok a) (Err f) told again e = absurd (mixed (names_of items.declarations) f e)
same items (Err f) (Ok b) told again e = absurd (mixed (names_of items.declarations) f (sym e))
same items (Err f) (Err g) told again e = let is : f ≡ g = cc in ap (λ x. Err x) is

pub one_scope : ((marks : List Mark) (r s : Result (List (List ℕ)) NameError) → IsNumbered marks r → IsNumbered marks s → (r ≡ Err Memory → ⊥) → (s ≡ Err Memory → ⊥) → r ≡ s)
    → (items : Items) (r s : Result (List Declaration) NameError) → IsScoped items r → IsScoped items s → (r ≡ Err Memory → ⊥) → (s ≡ Err Memory → ⊥) → r ≡ s
one_scope one items r s told again not_this not_that =
    same items r s told again
    (one (marks_of items) (names_of_answer items r) (names_of_answer items s) (numbered items r told) (numbered items s again) (not_memory items r not_this) (not_memory items s not_that))
