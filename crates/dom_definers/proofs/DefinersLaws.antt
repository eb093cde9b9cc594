-- Definers, put from the last constraint to the first.
use Rattle.std.proofs.Common.{◌≡◌, ℕ, zero, suc, ◌+◌, ◌<◌, ◌==◌, Bool, true, false, List, [], ◌∷◌, length, drop, take, get_or, set, if◌then◌else◌, refl, sym, ◌∙◌, ap, subst, arith, Option, Some, None, add-one}
use Rattle.std.proofs.lemmas.Bool.Decides.{Decides-eqb}
use Rattle.std.proofs.lemmas.Grind.{get_or-set_at}
use Rattle.std.proofs.lemmas.List.{drop_more, get_or-set_other, length-set}
use Rattle.dom_core.proofs.TestLaws.{not_both}
use Rattle.dom_core.specs.declared.var_id.VarId.{VarId}
use Rattle.dom_definers.specs.Definers.{is_var, definer_from, definer_at, IsBelowSome, DefineBelow, with_definer}
use Rattle.dom_definers.specs.declared.posted.Posted.{Posted}

-- the constraint at a place defines one of so many variables, or none
pub below_at : (n : ℕ) (cs : List Posted) (i : ℕ) (d : Posted) → DefineBelow n cs → i < length cs → IsBelowSome n (get_or cs i d).defines
below_at n [] i d h lt = absurd (omega (arith, lt))
below_at n (c ∷ cs) zero d h lt = h.0
below_at n (c ∷ cs) (suc i) d h lt = below_at n cs i d h.1 (omega (arith, lt))

put_one : (x v : ℕ) (ds : List (Option ℕ)) (i : ℕ) (rest : Option ℕ) (b : Bool) → (x == v) ≡ b → v < length ds → get_or ds v None ≡ rest
    → get_or (set ds x (Some i)) v None ≡ (if b then Some i else rest)
put_one x v ds i rest true e lt h =
    let same : x ≡ v = (Decides-eqb x v).0 e in get_or-set_at ds x v (Some i) None (sym same) (omega (arith, same, lt))
put_one x v ds i rest false e lt h =
    get_or-set_other ds x v (Some i) None (λ q. not_both (x == v) ((Decides-eqb x v).1 (sym q)) e) ∙ h

put_defined : (d : Option VarId) (ds : List (Option ℕ)) (i v : ℕ) (rest : Option ℕ) → v < length ds → definer_at ds v ≡ rest
    → definer_at (with_definer ds d i) v ≡ (if is_var d v then Some i else rest)
put_defined None ds i v rest lt h = h
put_defined (Some x) ds i v rest lt h = put_one x.0 v ds i rest (x.0 == v) refl lt h

pub put_length : (d : Option VarId) (ds : List (Option ℕ)) (i : ℕ) → length (with_definer ds d i) ≡ length ds
put_length None ds i = refl
put_length (Some x) ds i = length-set ds x.0 (Some i)

-- with one constraint more in front, the list has what it defines
pub put_next : (cs : List Posted) (ds : List (Option ℕ)) (i v : ℕ) (c : Posted) → i < length cs → c ≡ get_or cs i c → v < length ds
    → definer_at ds v ≡ definer_from (i + 1) (drop (i + 1) cs) v → definer_at (with_definer ds c.defines i) v ≡ definer_from i (drop i cs) v
put_next cs ds i v c lt same below h =
    put_defined c.defines ds i v (definer_from (suc i) (drop (i + 1) cs) v) below (h ∙ ap (λ (j : ℕ). definer_from j (drop (i + 1) cs) v) (add-one i))
    ∙ ap (λ (d : Posted). if is_var d.defines v then Some i else definer_from (suc i) (drop (i + 1) cs) v) same
    ∙ ap (λ (rest : List Posted). definer_from i rest v) (sym (drop_more cs i c lt))

below_next : (n : ℕ) (cs : List Posted) (i : ℕ) (d : Posted) → i < length cs → DefineBelow n (take i cs) → IsBelowSome n (get_or cs i d).defines → DefineBelow n (take (suc i) cs)
below_next n [] i d lt h b = tt
below_next n (c ∷ cs) zero d lt h b = (b, tt)
below_next n (c ∷ cs) (suc i) d lt h b = (h.0, below_next n cs i d (omega (arith, lt)) h.1 b)

-- one constraint more defines one of so many variables, or none
pub next_below : (n : ℕ) (cs : List Posted) (i : ℕ) (d : Posted) → i < length cs → DefineBelow n (take i cs) → IsBelowSome n (get_or cs i d).defines → DefineBelow n (take (i + 1) cs)
next_below n cs i d lt h b = subst (λ (m : ℕ). DefineBelow n (take m cs)) (sym (add-one i)) (below_next n cs i d lt h b)
