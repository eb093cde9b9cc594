-- Declarations that are sought by their names.
use Rattle.std.proofs.Common.{◌≡◌, ℕ, zero, suc, Bool, true, false, cond, List, [], ◌∷◌, slice_get, None, Some, refl, ◌∙◌, ap, arith}
use Rattle.std.specs.List.{find}
use Rattle.std.specs.Option.{option_map}
use Rattle.std.proofs.lemmas.Option.{slice_get-map}
use Rattle.std.proofs.lemmas.Slice.Eq.{bytes_eq-Decides}
use Rattle.fzn_limits.specs.Entries.{is_named, entries_where_declared, declared_entries, named_entries}
use Rattle.fzn_symbols.proofs.Places.{named_at, tail_different}
use Rattle.fzn_symbols.specs.Named.{name_of, names_of, AreDifferent, IsNamed, IsUndeclared}
use Rattle.fzn_syntax.specs.declared.declaration.Declaration.{Declaration}

none_behind : (d : Declaration) (ds : List Declaration) (n : List ℕ) (b : Bool) → is_named n d ≡ b → IsUndeclared (d ∷ ds) n → find (is_named n) ds ≡ None
    → cond b (Some d) (find (is_named n) ds) ≡ None
none_behind d ds n true is none further = absurd (none d (zero, refl, (bytes_eq-Decides (name_of d) n).0 is))
none_behind d ds n false is none further = further

found_none : (ds : List Declaration) (n : List ℕ) → IsUndeclared ds n → find (is_named n) ds ≡ None
found_none [] n none = refl
found_none (d ∷ ds) n none = none_behind d ds n (is_named n d) refl none (found_none ds n (λ e h. none e (suc h.0, h.1, h.2)))

found_behind : (e : Declaration) (ds : List Declaration) (n : List ℕ) (k : ℕ) (d : Declaration) (b : Bool) → is_named n e ≡ b → AreDifferent (names_of (e ∷ ds))
    → slice_get (names_of ds) k ≡ Some n → find (is_named n) ds ≡ Some d → cond b (Some e) (find (is_named n) ds) ≡ Some d
found_behind e ds n k d true is different at further =
    let first : slice_get (names_of (e ∷ ds)) zero ≡ Some n = ap Some ((bytes_eq-Decides (name_of e) n).0 is) in
    let twice : zero ≡ suc k = different zero (suc k) n first at in
    absurd (omega (arith, twice))
found_behind e ds n k d false is different at further = further

found_at : (ds : List Declaration) (n : List ℕ) (k : ℕ) (d : Declaration) → AreDifferent (names_of ds) → slice_get ds k ≡ Some d → name_of d ≡ n → find (is_named n) ds ≡ Some d
found_at [] n k d different at is = absurd cc
found_at (e ∷ ds) n zero d different at is =
    let same : e ≡ d = cc in
    let named : is_named n e ≡ true = (bytes_eq-Decides (name_of e) n).1 (ap name_of same ∙ is) in
    rw named (ap Some same)
found_at (e ∷ ds) n (suc k) d different at is =
    found_behind e ds n k d (is_named n e) refl different (named_at ds n k d at is) (found_at ds n k d (tail_different e ds different) at is)

pub none_named : (ds : List Declaration) (n : List ℕ) → IsUndeclared ds n → named_entries ds n ≡ 0
none_named ds n none = ap entries_where_declared (found_none ds n none)

pub one_named : (ds : List Declaration) (n : List ℕ) (d : Declaration) → AreDifferent (names_of ds) → IsNamed ds n d → named_entries ds n ≡ declared_entries d
one_named ds n d different named = ap entries_where_declared (found_at ds n named.0 d different named.1 named.2)
