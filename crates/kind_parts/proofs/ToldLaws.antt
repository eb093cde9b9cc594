-- Ends that are told one after the other.
use Rattle.std.proofs.Common.{◌≡◌, ℕ, ◌+◌, ◌<◌, ◌≤◌, ◌==◌, Bool, true, if◌then◌else◌, List, [], ◌∷◌, ◌++◌, length, take, get_or, ℤ, ◌≤ℤ◌, Option, Some, None, refl, sym, ◌∙◌, ap, subst, arith}
use Rattle.std.proofs.lemmas.Bool.Decides.{Decides-eqb}
use Rattle.std.proofs.lemmas.Int.{ints}
use Rattle.std.specs.Option.{option_to_list}
use Rattle.dom_core.specs.Literal.{holds_at, is_end}
use Rattle.dom_core.specs.declared.arg.Arg.{Arg}
use Rattle.dom_core.specs.declared.arg.Arg.TheVariants.{Var, Const}
use Rattle.dom_core.specs.declared.literal.Literal.{Literal}
use Rattle.dom_core.specs.declared.literal.Rel.{Rel}
use Rattle.dom_core.specs.declared.literal.Rel.TheVariants.{Le, Ge, Eq, Ne}
use Rattle.dom_core.specs.declared.var_id.VarId.{VarId}
use Rattle.dom_core.proofs.LiteralLaws.{le_holds, ge_holds}
use Rattle.dom_core.proofs.TestLaws.{and_second}
use Rattle.dom_cells.specs.Box.{cut_all}
use Rattle.dom_cells.specs.Cell.{has_of}
use Rattle.dom_cells.specs.declared.start.Start.{Start}
use Rattle.dom_cells.proofs.BoxLaws.{cut_all-push, has-cut_at, has-cut_at_is}
use Rattle.dom_cells.proofs.KeptLaws.{suits_end}
use Rattle.kind_law.specs.Argument.{with_arg, distinct}
use Rattle.kind_law.specs.Laws.{Each}
use Rattle.kind_law.specs.Next.{IsEndOf}
use Rattle.kind_law.specs.Visit.{cut_box}
use Rattle.kind_law.proofs.EachLaws.{each_map}
use Rattle.kind_law.proofs.VisitLaws.{append_nothing}
use Rattle.kind_parts.specs.Walk.{IsArgEnd}
use Rattle.kind_parts.specs.Told.{IsTold}
use Rattle.kind_parts.specs.Vars.{variables_of, are_distinct}
use Rattle.kind_parts.proofs.VarsLaws.{append_none, each_append}
use Rattle.kind_parts.proofs.WalkLaws.{all_taken, variables_next}

-- what the literals leave with one more, those before left too
left_before : (b : ℕ → Start) (v : ℕ) (ls : List Literal) (l : Literal) (x : ℤ) → is_end l.rel ≡ true → has_of (cut_box b (ls ++ l ∷ []) v) x ≡ true → has_of (cut_box b ls v) x ≡ true
left_before b v ls l x end h =
    has-cut_at v (cut_all v (b v) ls) l x (λ e. suits_end (cut_all v (b v) ls) l.rel end) (ap (λ (c : Start). has_of c x) (sym (cut_all-push v (b v) ls l)) ∙ h)

-- and the last literal holds of it
last_holds : (b : ℕ → Start) (u : VarId) (ls : List Literal) (l : Literal) (x : ℤ) → is_end l.rel ≡ true → l.var ≡ u → has_of (cut_box b (ls ++ l ∷ []) u.0) x ≡ true → holds_at l x ≡ true
last_holds b u ls l x end e h =
    let own : (if u.0 == l.var.0 then holds_at l x else true) ≡ true =
    and_second (has_of (cut_all u.0 (b u.0) ls) x) (if u.0 == l.var.0 then holds_at l x else true)
    (sym (has-cut_at_is u.0 (cut_all u.0 (b u.0) ls) l x (λ _. suits_end (cut_all u.0 (b u.0) ls) l.rel end)) ∙ ap (λ (c : Start). has_of c x) (sym (cut_all-push u.0 (b u.0) ls l)) ∙ h) in
    ap (λ (t : Bool). if t then holds_at l x else true) (sym ((Decides-eqb u.0 l.var.0).1 (ap (λ (w : VarId). w.0) (sym e)))) ∙ own

end_is : (refuted : (ℕ → Start) → Bool) (b : ℕ → Start) (u : VarId) (r : Rel) (v : ℤ) → IsEndOf refuted b u r v → is_end r ≡ true
end_is refuted b u Ge v h = refl
end_is refuted b u Le v h = refl
end_is refuted b u Eq v h = absurd h
end_is refuted b u Ne v h = absurd h

told_more : (refuted : (ℕ → Start) → Bool) (b : ℕ → Start) (ls : List Literal) (l : Literal) (u : VarId) → is_end l.rel ≡ true → IsTold refuted b ls u → IsTold refuted b (ls ++ l ∷ []) u
told_more refuted b ls l u end t = record {
  low = λ v x h g. t.low v x h (left_before b u.0 ls l x end g);
  high = λ v x none h g. t.high v x none h (left_before b u.0 ls l x end g);
}

order : (a b c : ℤ) → a ≤ℤ b → b ≤ℤ c → a ≤ℤ c
order a b c h g = omega (arith, ints)

told_last : (refuted : (ℕ → Start) → Bool) (b : ℕ → Start) (ls : List Literal) (l : Literal) (u : VarId) (r : Rel) → l.rel ≡ r → l.var ≡ u → IsEndOf refuted b u r l.value
    → IsTold refuted b (ls ++ l ∷ []) u
told_last refuted b ls l u Ge e f h =
    let end : is_end l.rel ≡ true = ap is_end e in
    record {
      low = λ v x i g. order v l.value x (h.1 v i) (ge_holds l x e (last_holds b u ls l x end f g));
      high = λ v x none i g. absurd (none l.value h.0);
    }
told_last refuted b ls l u Le e f h =
    let end : is_end l.rel ≡ true = ap is_end e in
    record {
      low = λ v x i g. absurd (h.2 v i);
      high = λ v x none i g. order x l.value v (le_holds l x e (last_holds b u ls l x end f g)) (h.1 v i);
    }
told_last refuted b ls l u Eq e f h = absurd h
told_last refuted b ls l u Ne e f h = absurd h

arg_told : (refuted : (ℕ → Start) → Bool) (b : ℕ → Start) (vs : List VarId) (x : Arg) (ls : List Literal) (r : Option Literal) → Each (IsTold refuted b ls) vs → IsArgEnd refuted b x r
    → Each (IsTold refuted b (ls ++ option_to_list r)) (vs ++ with_arg x [])
arg_told refuted b vs (Var u) ls None h e =
    subst (λ (ks : List Literal). Each (IsTold refuted b ks) (vs ++ u ∷ [])) (sym (append_nothing ls))
    (each_append (IsTold refuted b ls) vs (u ∷ []) h (record { low = λ v x i g. absurd (e.low v i); high = λ v x none i g. absurd (e.high v i) }, tt))
arg_told refuted b vs (Var u) ls (Some l) h e =
    each_append (IsTold refuted b (ls ++ l ∷ [])) vs (u ∷ [])
    (each_map (IsTold refuted b ls) (IsTold refuted b (ls ++ l ∷ [])) vs (λ w t. told_more refuted b ls l w (end_is refuted b u l.rel l.value e.1) t) h)
    (told_last refuted b ls l u l.rel refl e.0 e.1, tt)
arg_told refuted b vs (Const c) ls r h e =
    subst (λ (q : Option Literal). Each (IsTold refuted b (ls ++ option_to_list q)) (vs ++ [])) (sym e)
    (subst (λ (ks : List Literal). Each (IsTold refuted b ks) (vs ++ [])) (sym (append_nothing ls)) (subst (Each (IsTold refuted b ls)) (sym (append_none vs)) h))

-- what is told after the next argument
pub told_here : (refuted : (ℕ → Start) → Bool) (xs : List Arg) (b : ℕ → Start) (i : ℕ) (d : Arg) (ls : List Literal) (r : Option Literal) → i < length xs
    → Each (IsTold refuted b ls) (variables_of (take i xs)) → IsArgEnd refuted b (get_or xs i d) r
    → Each (IsTold refuted b (ls ++ option_to_list r)) (variables_of (take (i + 1) xs))
told_here refuted xs b i d ls r lt h e =
    subst (Each (IsTold refuted b (ls ++ option_to_list r))) (sym (variables_next xs i d lt)) (arg_told refuted b (variables_of (take i xs)) (get_or xs i d) ls r h e)

pub told_done : (refuted : (ℕ → Start) → Bool) (xs : List Arg) (b : ℕ → Start) (i : ℕ) (ls : List Literal) → length xs ≤ i → are_distinct (variables_of xs) ≡ true
    → Each (IsTold refuted b ls) (variables_of (take i xs)) → Each (IsTold refuted b ls) (distinct (variables_of xs))
told_done refuted xs b i ls h single e = subst (Each (IsTold refuted b ls)) (all_taken xs i h single) e
