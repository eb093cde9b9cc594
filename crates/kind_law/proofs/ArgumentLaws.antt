-- Laws of lists of the variables of arguments.
use Rattle.std.proofs.Common.{◌≡◌, ℕ, ◌==◌, Bool, true, false, ◌||◌, List, [], ◌∷◌, ◌++◌, if◌then◌else◌, refl, ap, subst, inl, inr}
use Rattle.std.proofs.lemmas.Bool.Decides.{Decides-eqb}
use Rattle.dom_core.specs.declared.arg.Arg.{Arg}
use Rattle.dom_core.specs.declared.arg.Arg.TheVariants.{Var, Const}
use Rattle.dom_core.specs.declared.var_id.VarId.{VarId}
use Rattle.dom_core.proofs.RisesLaws.{or_true, or_right}
use Rattle.dom_core.proofs.TestLaws.{neither, not_both}
use Rattle.kind_law.specs.Argument.{ArgHas, with_arg, is_listed, with_new, with_new_arg, collected, distinct}
use Rattle.kind_law.specs.DefineLaws.{ArePartsOf}
use Rattle.kind_law.specs.Laws.{Each, AreAmong}
use Rattle.kind_law.proofs.EachLaws.{each_map}

-- ---- each variable once

pub same_var : (u v : VarId) → v.0 ≡ u.0 → v ≡ u
same_var u v e = ap (λ (n : ℕ). let w : VarId = record { 0 = n } in w) e

pub listed : (P : VarId → Type 0) (u : VarId) (vs : List VarId) → is_listed u vs ≡ true → Each P vs → P u
listed P u [] e h = absurd (cc)
listed P u (v ∷ vs) e h =
    elim (or_true (v.0 == u.0) (is_listed u vs) e)
    [ inl same ↦ subst P (same_var u v ((Decides-eqb v.0 u.0).0 same)) h.0 | inr later ↦ listed P u vs later h.1 ]

pub each-push : (P : VarId → Type 0) (vs : List VarId) (v : VarId) → Each P vs → P v → Each P (vs ++ v ∷ [])
each-push P [] v h p = (p, tt)
each-push P (w ∷ ws) v h p = (h.0, each-push P ws v h.1 p)

pub each-front : (P : VarId → Type 0) (vs : List VarId) (v : VarId) → Each P (vs ++ v ∷ []) → Each P vs × P v
each-front P [] v h = (tt, h.0)
each-front P (w ∷ ws) v h = let t = each-front P ws v h.1 in ((h.0, t.0), t.1)

pub each-new : (P : VarId → Type 0) (seen : List VarId) (v : VarId) → Each P seen → P v → Each P (with_new seen v)
each-new P seen v h p =
    elim (is_listed v seen) as (λ b. Each P (if b then seen else seen ++ v ∷ [])) [ true ↦ h | false ↦ each-push P seen v h p ]

pub each-old : (P : VarId → Type 0) (seen : List VarId) (v : VarId) → Each P (with_new seen v) → Each P seen × P v
each-old P seen v =
    let step : (b : Bool) → is_listed v seen ≡ b → Each P (if b then seen else seen ++ v ∷ []) → Each P seen × P v =
    λ b. elim b as (λ b. is_listed v seen ≡ b → Each P (if b then seen else seen ++ v ∷ []) → Each P seen × P v)
    [ true ↦ λ e h. (h, listed P v seen e h) | false ↦ λ e h. each-front P seen v h ] in
    step (is_listed v seen) refl

each-collected : (P : VarId → Type 0) (seen vs : List VarId) → Each P seen → Each P vs → Each P (collected seen vs)
each-collected P seen [] h g = h
each-collected P seen (v ∷ vs) h g = each-collected P (with_new seen v) vs (each-new P seen v h g.0) g.1

collected-each : (P : VarId → Type 0) (seen vs : List VarId) → Each P (collected seen vs) → Each P seen × Each P vs
collected-each P seen [] h = (h, tt)
collected-each P seen (v ∷ vs) h =
    let t = collected-each P (with_new seen v) vs h in
    let s = each-old P seen v t.0 in
    (s.0, (s.1, t.1))

-- what holds of the distinct variables holds of all
pub each_listed : (P : VarId → Type 0) (vs : List VarId) → Each P (distinct vs) → Each P vs
each_listed P vs h = (collected-each P [] vs h).1

pub each_distinct : (P : VarId → Type 0) (vs : List VarId) → Each P vs → Each P (distinct vs)
each_distinct P vs h = each-collected P [] vs tt h

-- what holds of the variables with the argument's holds of them and of it
pub each_new_arg : (P : VarId → Type 0) (vs : List VarId) (x : Arg) → Each P (with_new_arg vs x) → Each P vs × ArgHas P x
each_new_arg P vs (Var u) h = each-old P vs u h
each_new_arg P vs (Const c) h = (h, tt)

pub split_arg : (P : VarId → Type 0) (x : Arg) (vs : List VarId) → Each P (with_arg x vs) → ArgHas P x × Each P vs
split_arg P (Var x) vs h = h
split_arg P (Const c) vs h = (tt, h)

pub join_arg : (P : VarId → Type 0) (x : Arg) (vs : List VarId) → ArgHas P x → Each P vs → Each P (with_arg x vs)
join_arg P (Var x) vs h g = (h, g)
join_arg P (Const c) vs h g = g

-- ---- variables that stand in a list, or don't

-- what holds of many variables holds of those among them
pub each_among : (P : VarId → Type 0) (few many : List VarId) → AreAmong few many → Each P many → Each P few
each_among P few many among h = each_map (λ u. is_listed u many ≡ true) P few (λ u e. listed P u many e h) among

-- a variable that isn't listed differs from those that are
pub unlisted_apart : (u : VarId) (vs : List VarId) → is_listed u vs ≡ false → Each (λ w. w.0 ≡ u.0 → ⊥) vs
unlisted_apart u [] h = tt
unlisted_apart u (v ∷ vs) h =
    ((λ e. not_both (v.0 == u.0) ((Decides-eqb v.0 u.0).1 e) (neither (v.0 == u.0) (is_listed u vs) h).0), unlisted_apart u vs (neither (v.0 == u.0) (is_listed u vs) h).1)

listed_head : (u : VarId) (vs : List VarId) → is_listed u (u ∷ vs) ≡ true
listed_head u vs = ap (λ (b : Bool). b || is_listed u vs) ((Decides-eqb u.0 u.0).1 refl)

pub listed_later : (u v : VarId) (vs : List VarId) → is_listed u vs ≡ true → is_listed u (v ∷ vs) ≡ true
listed_later u v vs h = or_right (v.0 == u.0) (is_listed u vs) h

pub listed_push : (u v : VarId) (vs : List VarId) → is_listed u vs ≡ true → is_listed u (vs ++ v ∷ []) ≡ true
listed_push u v [] h = absurd (cc)
listed_push u v (w ∷ ws) h =
    elim (or_true (w.0 == u.0) (is_listed u ws) h) [
      | inl same ↦ ap (λ (b : Bool). b || is_listed u (ws ++ v ∷ [])) same
      | inr later ↦ listed_later u w (ws ++ v ∷ []) (listed_push u v ws later)
    ]

pub listed_end : (u : VarId) (vs : List VarId) → is_listed u (vs ++ u ∷ []) ≡ true
listed_end u [] = listed_head u []
listed_end u (v ∷ vs) = listed_later u v (vs ++ u ∷ []) (listed_end u vs)

-- each variable of a list stands in it
pub all_listed : (vs : List VarId) → AreAmong vs vs
all_listed [] = tt
all_listed (v ∷ vs) = (listed_head v vs, each_map (λ u. is_listed u vs ≡ true) (λ u. is_listed u (v ∷ vs) ≡ true) vs (λ u h. listed_later u v vs h) (all_listed vs))

-- the variables stand among themselves and the argument's
pub among_new_arg : (vs : List VarId) (x : Arg) → AreAmong vs (with_new_arg vs x)
among_new_arg vs x = (each_new_arg (λ u. is_listed u (with_new_arg vs x) ≡ true) vs x (all_listed (with_new_arg vs x))).0

part_at : (output v : VarId) (inputs : List VarId) → is_listed v inputs ≡ true → (v.0 == output.0 || is_listed v inputs) ≡ true
part_at output v inputs h = or_right (v.0 == output.0) (is_listed v inputs) h

own_part : (output : VarId) (inputs : List VarId) → (output.0 == output.0 || is_listed output inputs) ≡ true
own_part output inputs = ap (λ (b : Bool). b || is_listed output inputs) ((Decides-eqb output.0 output.0).1 refl)

-- the variables are the inputs, and the output at their end
pub parts_last : (output : VarId) (inputs : List VarId) → ArePartsOf output inputs (inputs ++ output ∷ [])
parts_last output inputs =
    record {
      own = listed_end output inputs;
      others = each_map (λ u. is_listed u inputs ≡ true) (λ u. is_listed u (inputs ++ output ∷ []) ≡ true) inputs (λ u h. listed_push u output inputs h) (all_listed inputs);
      all = each-push (λ v. (v.0 == output.0 || is_listed v inputs) ≡ true) inputs output
          (each_map (λ u. is_listed u inputs ≡ true) (λ v. (v.0 == output.0 || is_listed v inputs) ≡ true) inputs (λ u h. part_at output u inputs h) (all_listed inputs))
          (own_part output inputs);
    }
