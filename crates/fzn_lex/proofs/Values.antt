-- What digits write only grows.
use Rattle.std.proofs.Common.{◌≡◌, ℕ, ◌+◌, ◌*◌, ◌<◌, ◌≤◌, List, [], ◌∷◌, Some, None, refl, arith, get_or, drop, length, if◌then◌else◌, nat_le}
use Rattle.std.proofs.lemmas.Bool.{lt-leb}
use Rattle.std.proofs.lemmas.List.{drop_more}
use Rattle.fzn_lex.specs.Classes.{digit_of, value_after}

front_grows : (base front : ℕ) → 0 < base → front ≤ base * front
front_grows base front some = grind arith

pub value_grows : (base front : ℕ) (ds : List ℕ) → 0 < base → front ≤ value_after base front ds
value_grows base front [] some = omega arith
value_grows base front (d ∷ ds) some =
    omega (arith, value_grows base (base * front + digit_of d) ds some, front_grows base front some)

-- digits whose number has left the range write none in it
pub no_way_back : (base front n limit : ℕ) (ds : List ℕ) (i d : ℕ) → 0 < base → i < length ds
    → value_after base front (drop i ds) ≡ n → limit < base * front + digit_of (get_or ds i d)
    → None ≡ (if nat_le n limit then Some n else None)
no_way_back base front n limit ds i d some lt same above =
    let e : value_after base (base * front + digit_of (get_or ds i d)) (drop (i + 1) ds) ≡ n = rw (drop_more ds i d lt) at same in
    let g : base * front + digit_of (get_or ds i d) ≤ n = rw e at (value_grows base (base * front + digit_of (get_or ds i d)) (drop (i + 1) ds) some) in
    rw (lt-leb n limit (omega arith)) refl
