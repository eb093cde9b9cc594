-- No constraint has more than four arguments.
use Rattle.std.proofs.Common.{◌≡◌, ℕ, zero, suc, ◌<◌, ◌≤◌, Bool, true, ◌&&◌, List, [], ◌∷◌, length, Some, slice_get, refl, subst, arith}
use Rattle.std.specs.Prelude.{nat_lt}
use Rattle.std.proofs.lemmas.Bool.Decides.{nat_tests}
use Rattle.std.proofs.lemmas.Option.{same_Some}
use Rattle.fzn_signatures.specs.Table.{Entry, table, IsEntryOf}
use Rattle.fzn_signatures.proofs.Rising.{both}

-- each of these has at most four
abbrev have_few : List Entry → Bool
have_few [] = true
have_few (e ∷ es) = nat_lt (length e.arguments) 5 && have_few es

few_there : (n : ℕ) → nat_lt n 5 ≡ true → n ≤ 4
few_there n e = grind (arith, nat_tests)

few_at : (es : List Entry) → have_few es ≡ true → (k : ℕ) (e : Entry) → slice_get es k ≡ Some e → length e.arguments ≤ 4
few_at [] few k e at = absurd cc
few_at (x ∷ es) few zero e at =
    let p = both (nat_lt (length x.arguments) 5) (have_few es) few in
    subst (λ (y : Entry). length y.arguments ≤ 4) (same_Some x e at) (few_there (length x.arguments) p.0)
few_at (x ∷ es) few (suc k) e at = let p = both (nat_lt (length x.arguments) 5) (have_few es) few in few_at es p.1 k e at

pub few_arguments : (name : List ℕ) (e : Entry) → IsEntryOf name e → length e.arguments ≤ 4
few_arguments name e h = few_at table refl h.0 e h.1
