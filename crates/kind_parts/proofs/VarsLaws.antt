-- Laws of lists of variables, each once.
use Rattle.std.proofs.Common.{◌≡◌, ◌∙◌, sym, ap, subst, refl, ℕ, ◌==◌, ◌&&◌, ◌||◌, Bool, true, false, not, cond, if◌then◌else◌, List, [], ◌∷◌, ◌++◌}
use Rattle.std.proofs.lemmas.Bool.Decides.{Decides-eqb}
use Rattle.std.specs.Cmp.{unsigned_tied}
use Rattle.std.specs.Ordering.{nat_cmp, is_eq}
use Rattle.std.proofs.lemmas.List.Folds.{list_any-append}
use Rattle.dom_core.specs.declared.arg.Arg.{Arg}
use Rattle.dom_core.specs.declared.arg.Arg.TheVariants.{Var, Const}
use Rattle.dom_core.specs.declared.var_id.VarId.{VarId}
use Rattle.dom_core.proofs.TestLaws.{and_first, and_second, neither, not_true, not_both}
use Rattle.kind_law.specs.Argument.{with_arg, is_listed, is_new, with_new, collected, distinct}
use Rattle.kind_law.specs.Laws.{Each}
use Rattle.kind_parts.specs.Vars.{are_new, are_distinct, Gathered, gathered_more, TellsListed}

-- ---- variables that were seen, kept by their numbers

pub none_seen : (has : ℕ → Bool) → ((n : ℕ) → has n ≡ false) → TellsListed [] has
none_seen has none n = none n

pub was_new : (b t : Bool) → b ≡ not t → b ≡ true → t ≡ false
was_new b true is new = absurd cc
was_new b false is new = refl

pub was_there : (b t : Bool) → b ≡ not t → b ≡ false → t ≡ true
was_there b true is old = refl
was_there b false is old = absurd cc

pub with_unseen : (vars : List VarId) (v : VarId) (has : ℕ → Bool) → TellsListed vars has → has v.0 ≡ false → with_new vars v ≡ vars ++ v ∷ []
with_unseen vars v has tells new = ap (λ (b : Bool). if b then vars else vars ++ v ∷ []) (sym (tells v.0) ∙ new)

pub with_seen : (vars : List VarId) (v : VarId) (has : ℕ → Bool) → TellsListed vars has → has v.0 ≡ true → with_new vars v ≡ vars
with_seen vars v has tells old = ap (λ (b : Bool). if b then vars else vars ++ v ∷ []) (sym (tells v.0) ∙ old)

one_more : (same listed : Bool) → cond same true listed ≡ (listed || (same || false))
one_more true true = refl
one_more true false = refl
one_more false true = refl
one_more false false = refl

pub seen_more : (vars : List VarId) (v : VarId) (old new : ℕ → Bool) → TellsListed vars old
    → ((q : ℕ) → new q ≡ cond (is_eq (nat_cmp v.0 q)) true (old q)) → TellsListed (vars ++ v ∷ []) new
seen_more vars v old new tells more n =
    let u : VarId = record { 0 = n } in
    more n
    ∙ ap (λ (b : Bool). cond b true (old n)) (unsigned_tied v.0 n)
    ∙ ap (λ (b : Bool). cond (v.0 == n) true b) (tells n)
    ∙ one_more (v.0 == n) (is_listed u vars)
    ∙ sym (list_any-append (λ (w : VarId). w.0 == n) vars (v ∷ []))

-- ---- gathered one by one

-- what is gathered where these variables come after what was
abbrev pub gathering : Gathered → List VarId → Gathered
gathering g vs = record { vars = collected g.vars vs; single = g.single && are_new g.vars vs }

both_new : (a b c : Bool) → ((a && b) && c) ≡ (a && (b && c))
both_new true b c = refl
both_new false b c = refl

and_true : (b : Bool) → (b && true) ≡ b
and_true true = refl
and_true false = refl

with_single : (vars : List VarId) (a b : Bool) → a ≡ b → (let g : Gathered = record { vars = vars; single = a } in g) ≡ record { vars = vars; single = b }
with_single vars a b e = ap (λ (t : Bool). let g : Gathered = record { vars = vars; single = t } in g) e

-- an argument that comes is gathered
pub gathering-more : (g : Gathered) (x : Arg) (vs : List VarId) → gathering (gathered_more g x) vs ≡ gathering g (with_arg x vs)
gathering-more g (Var u) vs =
    with_single (collected (with_new g.vars u) vs) ((g.single && is_new g.vars (Var u)) && are_new (with_new g.vars u) vs) (g.single && are_new g.vars (u ∷ vs))
    (both_new g.single (not (is_listed u g.vars)) (are_new (with_new g.vars u) vs))
gathering-more g (Const c) vs =
    with_single (collected g.vars vs) ((g.single && true) && are_new g.vars vs) (g.single && are_new g.vars vs)
    (ap (λ (b : Bool). b && are_new g.vars vs) (and_true g.single))

pub gathering-none : (g : Gathered) → gathering g [] ≡ g
gathering-none g = with_single g.vars (g.single && true) g.single (and_true g.single)

-- ---- lists in which no variable comes twice

-- each variable of the list is new when it comes
abbrev pub AllNew : List VarId → List VarId → Type 0
AllNew seen [] = Unit {0}
AllNew seen (v ∷ vs) = (is_listed v seen ≡ false) × AllNew (seen ++ v ∷ []) vs

push_append : (xs : List VarId) (v : VarId) (vs : List VarId) → (xs ++ v ∷ []) ++ vs ≡ xs ++ v ∷ vs
push_append [] v vs = refl
push_append (x ∷ xs) v vs = ap (λ (ys : List VarId). x ∷ ys) (push_append xs v vs)

pub append_none : (xs : List VarId) → xs ++ [] ≡ xs
append_none [] = refl
append_none (x ∷ xs) = ap (λ (ys : List VarId). x ∷ ys) (append_none xs)

-- such a list is its own variables, each once
pub all_new : (seen vs : List VarId) → are_new seen vs ≡ true → AllNew seen vs × (collected seen vs ≡ seen ++ vs)
all_new seen [] h = (tt, sym (append_none seen))
all_new seen (v ∷ vs) h =
    let e : is_listed v seen ≡ false = not_true (is_listed v seen) (and_first (not (is_listed v seen)) (are_new (with_new seen v) vs) h) in
    let new : with_new seen v ≡ seen ++ v ∷ [] = ap (λ (t : Bool). if t then seen else seen ++ v ∷ []) e in
    let rest = all_new (seen ++ v ∷ []) vs (subst (λ (s : List VarId). are_new s vs ≡ true) new (and_second (not (is_listed v seen)) (are_new (with_new seen v) vs) h)) in
    ((e, rest.0), ap (λ (s : List VarId). collected s vs) new ∙ rest.1 ∙ push_append seen v vs)

pub distinct_all : (vs : List VarId) → are_distinct vs ≡ true → distinct vs ≡ vs
distinct_all vs h = (all_new [] vs h).1

-- variables that are new are not this one
abbrev pub Bars : VarId → List VarId → Type 0
Bars u seen = (w : VarId) → is_listed w seen ≡ false → w.0 ≡ u.0 → ⊥

listed_push : (w : VarId) (xs : List VarId) (v : VarId) → is_listed w (xs ++ v ∷ []) ≡ false → (is_listed w xs ≡ false) × ((v.0 == w.0) ≡ false)
listed_push w [] v h = (refl, (neither (v.0 == w.0) false h).0)
listed_push w (x ∷ xs) v h =
    let both = neither (x.0 == w.0) (is_listed w (xs ++ v ∷ [])) h in
    let rest = listed_push w xs v both.1 in
    (ap (λ (b : Bool). b || is_listed w xs) both.0 ∙ rest.0, rest.1)

bars_own : (u : VarId) (seen : List VarId) → Bars u (seen ++ u ∷ [])
bars_own u seen w h e = not_both (u.0 == w.0) ((Decides-eqb u.0 w.0).1 (sym e)) (listed_push w seen u h).1

bars_more : (u v : VarId) (seen : List VarId) → Bars u seen → Bars u (seen ++ v ∷ [])
bars_more u v seen f w h = f w (listed_push w seen v h).0

later_apart : (u : VarId) (seen vs : List VarId) → Bars u seen → AllNew seen vs → Each (λ w. w.0 ≡ u.0 → ⊥) vs
later_apart u seen [] f h = tt
later_apart u seen (v ∷ vs) f h = (f v h.0, later_apart u (seen ++ v ∷ []) vs (bars_more u v seen f) h.1)

pub each_append : (P : VarId → Type 0) (xs ys : List VarId) → Each P xs → Each P ys → Each P (xs ++ ys)
each_append P [] ys h g = g
each_append P (x ∷ xs) ys h g = (h.0, each_append P xs ys h.1 g)

unlisted_head : (u v : VarId) (vs : List VarId) → is_listed u (v ∷ vs) ≡ false → v.0 ≡ u.0 → ⊥
unlisted_head u v vs h e = not_both (v.0 == u.0) ((Decides-eqb v.0 u.0).1 e) (neither (v.0 == u.0) (is_listed u vs) h).0

pub seen_apart : (u : VarId) (seen : List VarId) → is_listed u seen ≡ false → Each (λ w. w.0 ≡ u.0 → ⊥) seen
seen_apart u [] h = tt
seen_apart u (v ∷ vs) h = (unlisted_head u v vs h, seen_apart u vs (neither (v.0 == u.0) (is_listed u vs) h).1)

-- the variable at a place of such a list is none of those before and after it
all_apart : (seen front back : List VarId) (u : VarId) → AllNew seen (front ++ u ∷ back)
    → Each (λ w. w.0 ≡ u.0 → ⊥) (seen ++ front) × Each (λ w. w.0 ≡ u.0 → ⊥) back
all_apart seen [] back u h =
    (subst (Each (λ w. w.0 ≡ u.0 → ⊥)) (sym (append_none seen)) (seen_apart u seen h.0), later_apart u (seen ++ u ∷ []) back (bars_own u seen) h.1)
all_apart seen (v ∷ front) back u h =
    let rest = all_apart (seen ++ v ∷ []) front back u h.1 in
    (subst (Each (λ w. w.0 ≡ u.0 → ⊥)) (push_append seen v front) rest.0, rest.1)

-- a variable of such a list is none of those before and after it
pub apart_from_others : (front back : List VarId) (u : VarId) → are_distinct (front ++ u ∷ back) ≡ true
    → Each (λ w. w.0 ≡ u.0 → ⊥) front × Each (λ w. w.0 ≡ u.0 → ⊥) back
apart_from_others front back u h = all_apart [] front back u (all_new [] (front ++ u ∷ back) h).0
