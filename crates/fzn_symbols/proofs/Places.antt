-- Declarations by their names and places.
use Rattle.std.proofs.Common.{◌≡◌, ◌↔◌, ℕ, zero, suc, ◌<◌, Bool, false, List, [], ◌∷◌, length, get_or, slice_get, Option, None, Some, MatchOption, IsTrue, refl, sym, ◌∙◌, ap, subst}
use Rattle.std.specs.Option.{option_map}
use Rattle.std.proofs.lemmas.Option.{slice_get-map, slice_get_read}
use Rattle.fzn_symbols.specs.Listed.{IsUnlisted}
use Rattle.fzn_syntax.specs.declared.declaration.Declaration.{Declaration}
use Rattle.fzn_symbols.specs.Named.{name_of, names_of, AreDifferent, IsNamed, IsPlaced, IsUndeclared}
use Rattle.fzn_symbols.specs.Sorts.{sort_of, Names}
use Rattle.fzn_symbols.specs.declared.sort.Sort.{Sort}

placed : (ds : List Declaration) (n : List ℕ) (k : ℕ) → slice_get (names_of ds) k ≡ Some n → IsPlaced ds n k
placed [] n k e = absurd cc
placed (d ∷ ds) n zero e = (d, refl, cc)
placed (d ∷ ds) n (suc k) e = placed ds n k e

-- the name of a declaration stands at its place
pub named_at : (ds : List Declaration) (n : List ℕ) (k : ℕ) (d : Declaration) → slice_get ds k ≡ Some d → name_of d ≡ n → slice_get (names_of ds) k ≡ Some n
named_at ds n k d at is = slice_get-map name_of ds k ∙ ap (option_map name_of) at ∙ ap Some is

-- the declarations behind the first have different names too
pub tail_different : (d : Declaration) (ds : List Declaration) → AreDifferent (names_of (d ∷ ds)) → AreDifferent (names_of ds)
tail_different d ds different i j n p q = let same : suc i ≡ suc j = different (suc i) (suc j) n p q in cc

-- what is read at a place of a copy stands there
pub item_at : {X : Type 0} (xs ys : List X) (k : ℕ) (x : X) → ys ≡ xs → k < length ys → x ≡ get_or ys k x → slice_get xs k ≡ Some x
item_at xs ys k x same lt is = subst (λ l. slice_get l k ≡ Some x) same (slice_get_read ys (length ys) k x refl lt is)

undeclared : (ds : List Declaration) (n : List ℕ) → IsUnlisted (names_of ds) n → IsUndeclared ds n
undeclared ds n none d i = none (i.0, named_at ds n i.0 d i.1 i.2)

pub place_of : (ds : List Declaration) (n : List ℕ) (r : Option ℕ) → MatchOption r (IsUnlisted (names_of ds) n) (λ i. slice_get (names_of ds) i ≡ Some n)
    → MatchOption r (IsUndeclared ds n) (IsPlaced ds n)
place_of ds n None h = undeclared ds n h
place_of ds n (Some k) h = placed ds n k h

-- a name is that of one declaration
pub one_named : (ds : List Declaration) (n : List ℕ) (d e : Declaration) → AreDifferent (names_of ds) → IsNamed ds n d → IsNamed ds n e → e ≡ d
one_named ds n d e different one other =
    let same : other.0 ≡ one.0 = different other.0 one.0 n (named_at ds n other.0 e other.1 other.2) (named_at ds n one.0 d one.1 one.2) in
    let there : slice_get ds one.0 ≡ Some e = subst (λ k. slice_get ds k ≡ Some e) same other.1 in
    cc

pub names_none : (ds : List Declaration) (n : List ℕ) (s : Sort) → IsUndeclared ds n → IsTrue false ↔ Names ds n s
names_none ds n s none = (λ h. absurd cc, λ h. absurd (none h.0 h.1))

pub names_one : (ds : List Declaration) (n : List ℕ) (s : Sort) (d : Declaration) (r : Bool) → AreDifferent (names_of ds) → IsNamed ds n d
    → IsTrue r ↔ (sort_of d ≡ s) → IsTrue r ↔ Names ds n s
names_one ds n s d r different is told = (λ h. (d, is, told.0 h), λ h. told.1 (ap sort_of (sym (one_named ds n d h.0 different is h.1)) ∙ h.2))
