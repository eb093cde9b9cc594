-- A relation that is solved for one of its variables.
use Rattle.std.proofs.Common.{◌≡◌, ℕ, ◌+◌, ◌<◌, ◌≤◌, ◌==◌, Bool, true, false, not, ◌&&◌, ◌||◌, List, [], ◌∷◌, ◌++◌, length, take, drop, get_or, ℤ, pos, negsuc, int_lt, refl, sym, ◌∙◌, ap, subst, inl, inr, Some, slice_get, arith}
use Rattle.std.proofs.lemmas.Bool.Decides.{Decides-eqb}
use Rattle.std.proofs.lemmas.List.{take-append-drop, drop_more, length-take-le}
use Rattle.std.proofs.lemmas.Option.{slice_get-get_or, slice_get_cases}
use Rattle.std.specs.Ordering.{int_eq}
use Rattle.dom_core.specs.declared.arg.Arg.{Arg}
use Rattle.dom_core.specs.declared.arg.Arg.TheVariants.{Var, Const}
use Rattle.dom_core.specs.declared.var_id.VarId.{VarId}
use Rattle.dom_core.proofs.TestLaws.{and_first, and_second, not_true, not_both, true_or_false}
use Rattle.dom_core.proofs.RisesLaws.{or_true, int_eq_same}
use Rattle.kind_law.specs.Laws.{Each}
use Rattle.kind_sum.specs.SumRelation.{SumRelation}
use Rattle.kind_law.specs.Argument.{var_of, distinct, is_listed}
use Rattle.kind_sum.specs.Sum.{vars_of}
use Rattle.kind_law.proofs.ArgumentLaws.{each_distinct, unlisted_apart}
use Rattle.kind_linear.specs.LinearOutput.{LinearOutput, sign_of, relation_of, is_functional, IsSolved}
use Rattle.kind_sum.specs.Place.{is_unit, is_alone, is_unit_beside, others_at, can_define}
use Rattle.kind_parts.specs.Relation.{is_equality}
use Rattle.dom_core.specs.declared.relation.Relation.{Relation}
use Rattle.dom_core.specs.declared.relation.Relation.TheVariants.{AtMost, Equal, Differ}
use Rattle.kind_sum.specs.declared.term.Term.{Term}

-- the equation at a place with this term
abbrev pub output_at : SumRelation → ℕ → Term → LinearOutput
output_at k place t = record { front = take place k.terms; turned = int_lt t.coef (pos 0); output = var_of t.arg; back = drop (place + 1) k.terms; bound = k.bound }

false_is_true : (b : Bool) → b ≡ true → b ≡ false → ⊥
false_is_true b h g = not_both b h g

equal_is : (r : Relation) → is_equality r ≡ true → Equal ≡ r
equal_is AtMost h = absurd (cc)
equal_is Equal h = refl
equal_is Differ h = absurd (cc)

unit_sign : (c : ℤ) → is_unit c ≡ true → sign_of (int_lt c (pos 0)) ≡ c
unit_sign c h =
    elim (or_true (int_eq c (pos 1)) (int_eq c (negsuc 0)) h) [
      | inl one ↦ subst (λ (x : ℤ). sign_of (int_lt x (pos 0)) ≡ x) (sym (int_eq_same c (pos 1) one)) refl
      | inr minus ↦ subst (λ (x : ℤ). sign_of (int_lt x (pos 0)) ≡ x) (sym (int_eq_same c (negsuc 0) minus)) refl
    ]

alone_var : (x : Arg) (others : List Term) → is_alone x others ≡ true → Var (var_of x) ≡ x
alone_var (Var u) others h = refl
alone_var (Const c) others h = absurd (cc)

alone_unlisted : (x : Arg) (others : List Term) → is_alone x others ≡ true → is_listed (var_of x) (vars_of others) ≡ false
alone_unlisted (Var u) others h = not_true (is_listed u (vars_of others)) h
alone_unlisted (Const c) others h = absurd (cc)

same_term : (s t : Term) → s.coef ≡ t.coef → s.arg ≡ t.arg → s ≡ t
same_term s t e f = ap (λ (c : ℤ). let u : Term = record { coef = c; arg = s.arg } in u) e ∙ ap (λ (x : Arg). let u : Term = record { coef = t.coef; arg = x } in u) f

same_relation : (a b : SumRelation) → a.terms ≡ b.terms → a.relation ≡ b.relation → a.bound ≡ b.bound → a ≡ b
same_relation a b e f g =
    ap (λ (ts : List Term). let k : SumRelation = record { terms = ts; relation = a.relation; bound = a.bound } in k) e
    ∙ ap (λ (r : Relation). let k : SumRelation = record { terms = b.terms; relation = r; bound = a.bound } in k) f
    ∙ ap (λ (c : ℤ). let k : SumRelation = record { terms = b.terms; relation = b.relation; bound = c } in k) g

unit_here : (k : SumRelation) (place : ℕ) (t : Term) → slice_get k.terms place ≡ Some t → can_define k place ≡ true
    → (is_unit t.coef && is_alone t.arg (others_at k.terms place)) ≡ true
unit_here k place t e h =
    ap (λ o. is_unit_beside o (others_at k.terms place)) (sym e) ∙ and_second (is_equality k.relation) (is_unit_beside (slice_get k.terms place) (others_at k.terms place)) h

-- the term at the place
pub place_within : (k : SumRelation) (place : ℕ) → can_define k place ≡ true → place < length k.terms
place_within k place h =
    elim (slice_get_cases k.terms place).1 [
      | inl within ↦ within.1
      | inr past ↦ absurd (false_is_true (is_unit_beside (slice_get k.terms place) (others_at k.terms place))
          (and_second (is_equality k.relation) (is_unit_beside (slice_get k.terms place) (others_at k.terms place)) h)
          (ap (λ o. is_unit_beside o (others_at k.terms place)) past.1))
    ]

pub solved_relation : (k : SumRelation) (place : ℕ) (d : Term) → can_define k place ≡ true → relation_of (output_at k place (get_or k.terms place d)) ≡ k
solved_relation k place d h =
    let lt : place < length k.terms = place_within k place h in
    let beside = unit_here k place (get_or k.terms place d) (slice_get-get_or k.terms place d lt) h in
    let own : (let u : Term = record { coef = sign_of (int_lt (get_or k.terms place d).coef (pos 0)); arg = Var (var_of (get_or k.terms place d).arg) } in u) ≡ get_or k.terms place d =
    same_term (record { coef = sign_of (int_lt (get_or k.terms place d).coef (pos 0)); arg = Var (var_of (get_or k.terms place d).arg) }) (get_or k.terms place d)
    (unit_sign (get_or k.terms place d).coef (and_first (is_unit (get_or k.terms place d).coef) (is_alone (get_or k.terms place d).arg (others_at k.terms place)) beside))
    (alone_var (get_or k.terms place d).arg (others_at k.terms place) (and_second (is_unit (get_or k.terms place d).coef) (is_alone (get_or k.terms place d).arg (others_at k.terms place)) beside)) in
    same_relation (relation_of (output_at k place (get_or k.terms place d))) k
    (ap (λ (u : Term). take place k.terms ++ u ∷ drop (place + 1) k.terms) own ∙ ap (λ (us : List Term). take place k.terms ++ us) (sym (drop_more k.terms place d lt))
    ∙ take-append-drop place k.terms)
    (equal_is k.relation (and_first (is_equality k.relation) (is_unit_beside (slice_get k.terms place) (others_at k.terms place)) h))
    refl

-- a variable that differs from each of a list isn't listed
apart_unlisted : (u : VarId) (vs : List VarId) → Each (λ w. w.0 ≡ u.0 → ⊥) vs → is_listed u vs ≡ false
apart_unlisted u [] h = refl
apart_unlisted u (v ∷ vs) h =
    elim (true_or_false (v.0 == u.0)) [
      | inl same ↦ absurd (h.0 ((Decides-eqb v.0 u.0).0 same))
      | inr other ↦ ap (λ (b : Bool). b || is_listed u vs) other ∙ apart_unlisted u vs h.1
    ]

distinct_unlisted : (u : VarId) (vs : List VarId) → is_listed u vs ≡ false → is_listed u (distinct vs) ≡ false
distinct_unlisted u vs h = apart_unlisted u (distinct vs) (each_distinct (λ w. w.0 ≡ u.0 → ⊥) vs (unlisted_apart u vs h))

pub solved_apart : (k : SumRelation) (place : ℕ) (d : Term) → can_define k place ≡ true → is_functional (output_at k place (get_or k.terms place d)) ≡ true
solved_apart k place d h =
    let beside = unit_here k place (get_or k.terms place d) (slice_get-get_or k.terms place d (place_within k place h)) h in
    ap not (distinct_unlisted (var_of (get_or k.terms place d).arg) (vars_of (others_at k.terms place))
    (alone_unlisted (get_or k.terms place d).arg (others_at k.terms place)
    (and_second (is_unit (get_or k.terms place d).coef) (is_alone (get_or k.terms place d).arg (others_at k.terms place)) beside)))

within_le : (a b : ℕ) → a < b → a ≤ b
within_le a b h = omega arith

pub solved_is : (k : SumRelation) (place : ℕ) (d : Term) → can_define k place ≡ true → IsSolved k place (output_at k place (get_or k.terms place d))
solved_is k place d h = record {
  sum = solved_relation k place d h;
  place = length-take-le place k.terms (within_le place (length k.terms) (place_within k place h));
  functional = solved_apart k place d h;
}
