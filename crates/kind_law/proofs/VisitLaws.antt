-- Ends that are collected variable by variable, and that stay implied in smaller boxes.
use Rattle.std.proofs.Common.{◌≡◌, ℕ, ◌+◌, ◌<◌, ◌==◌, Bool, true, false, not, List, [], ◌∷◌, ◌++◌, length, take, Option, Some, None, slice_get, refl, sym, ◌∙◌, ap, subst, arith}
use Rattle.std.proofs.lemmas.Bool.Decides.{Decides-eqb}
use Rattle.std.specs.Option.{option_to_list}
use Rattle.dom_cells.specs.Box.{kept}
use Rattle.dom_cells.specs.Cell.{IsSane, IsPossible}
use Rattle.dom_core.specs.Literal.{negation}
use Rattle.dom_core.specs.declared.literal.Literal.{Literal}
use Rattle.dom_core.specs.declared.var_id.VarId.{VarId}
use Rattle.dom_cells.specs.declared.start.Start.{Start}
use Rattle.kind_law.specs.Visit.{AllImplied, AreEnds, IsBatch, IsQuiet, cut_box}
use Rattle.kind_law.specs.Laws.{ShrinkLaw, IsSmaller}
use Rattle.kind_law.specs.Next.{HasNoEnd, IsFirstEnd, IsEndOf}
use Rattle.kind_law.specs.Reason.{IsImplied}
use Rattle.kind_law.proofs.ArgumentLaws.{each-push}
use Rattle.kind_law.proofs.EachLaws.{each_more, each_none}
use Rattle.kind_law.proofs.ReasonLaws.{end_cause}

pub no_ends : (refuted : (ℕ → Start) → Bool) (vars : List VarId) (b : ℕ → Start) (n : ℕ) (ls : List Literal) → ls ≡ [] → AreEnds refuted (take 0 vars) b n ls
no_ends refuted vars b n ls e = record { implied = subst (AllImplied refuted b n) (sym e) tt; none = λ _. each_none (HasNoEnd refuted b) vars }

implied_more : (refuted : (ℕ → Start) → Bool) (b : ℕ → Start) (n : ℕ) (ls : List Literal) (l : Literal) → AllImplied refuted b n ls → l.var.0 < n → IsImplied refuted b l
    → AllImplied refuted b n (ls ++ l ∷ [])
implied_more refuted b n [] l h lt i = (lt, i, tt)
implied_more refuted b n (k ∷ ks) l h lt i = (h.0, h.1, implied_more refuted b n ks l h.2 lt i)

not_empty : (ls : List Literal) (l : Literal) → ls ++ l ∷ [] ≡ [] → ⊥
not_empty [] l e = absurd (cc)
not_empty (k ∷ ks) l e = absurd (cc)

pub append_nothing : (ls : List Literal) → ls ++ [] ≡ ls
append_nothing [] = refl
append_nothing (l ∷ ls) = ap (λ (ks : List Literal). l ∷ ks) (append_nothing ls)

pub ends_more : (refuted : (ℕ → Start) → Bool) (vars : List VarId) (b : ℕ → Start) (n i : ℕ) (u : VarId) (ls : List Literal) (r : Option Literal)
    → AreEnds refuted (take i vars) b n ls → slice_get vars i ≡ Some u → u.0 < n → IsSane (b u.0) → IsFirstEnd refuted b u r
    → AreEnds refuted (take (i + 1) vars) b n (ls ++ option_to_list r)
ends_more refuted vars b n i u ls None h at lt s e =
    record {
      implied = subst (AllImplied refuted b n) (sym (append_nothing ls)) h.implied;
      none = λ z. each_more (HasNoEnd refuted b) vars i u (h.none (subst (λ (ks : List Literal). ks ≡ []) (append_nothing ls) z)) at e;
    }
ends_more refuted vars b n i u ls (Some l) h at lt s e =
    record {
      implied = implied_more refuted b n ls l h.implied (subst (λ (w : VarId). w.0 < n) (sym e.0) lt)
          (end_cause refuted b l.var l.rel l.value (subst (λ (w : VarId). IsSane (b w.0)) (sym e.0) s) (subst (λ (w : VarId). IsEndOf refuted b w l.rel l.value) (sym e.0) e.1));
      none = λ z. absurd (not_empty ls l z);
    }

pub ends_same : (refuted : (ℕ → Start) → Bool) (vars us : List VarId) (b : ℕ → Start) (n : ℕ) (ls : List Literal) → us ≡ vars → AreEnds refuted us b n ls → AreEnds refuted vars b n ls
ends_same refuted vars us b n ls e h = subst (λ (vs : List VarId). AreEnds refuted vs b n ls) e h

-- what is implied of a larger box is implied of a smaller one, where the literal may still hold and may still fail
pub still_implied : (refuted : (ℕ → Start) → Bool) (inside : ℕ → Bool) (vars : List VarId) (small large : ℕ → Start) (l : Literal) → ShrinkLaw inside vars refuted
    → IsSmaller inside vars (kept small (negation l)) (kept large (negation l)) → IsPossible (small l.var.0) l → IsPossible (small l.var.0) (negation l)
    → IsImplied refuted large l → IsImplied refuted small l
still_implied refuted inside vars small large l law smaller possible still h =
    record { end_is = h.end_is; possible = possible; open_still = still; refutes = law (kept small (negation l)) (kept large (negation l)) smaller h.refutes }

pub ends_push : (refuted : (ℕ → Start) → Bool) (vs : List VarId) (b : ℕ → Start) (n : ℕ) (u : VarId) (ls : List Literal) (r : Option Literal)
    → AreEnds refuted vs b n ls → u.0 < n → IsSane (b u.0) → IsFirstEnd refuted b u r → AreEnds refuted (vs ++ u ∷ []) b n (ls ++ option_to_list r)
ends_push refuted vs b n u ls None h lt s e =
    record {
      implied = subst (AllImplied refuted b n) (sym (append_nothing ls)) h.implied;
      none = λ z. each-push (HasNoEnd refuted b) vs u (h.none (subst (λ (ks : List Literal). ks ≡ []) (append_nothing ls) z)) e;
    }
ends_push refuted vs b n u ls (Some l) h lt s e =
    record {
      implied = implied_more refuted b n ls l h.implied (subst (λ (w : VarId). w.0 < n) (sym e.0) lt)
          (end_cause refuted b l.var l.rel l.value (subst (λ (w : VarId). IsSane (b w.0)) (sym e.0) s) (subst (λ (w : VarId). IsEndOf refuted b w l.rel l.value) (sym e.0) e.1));
      none = λ z. absurd (not_empty ls l z);
    }

no_length : (ls : List Literal) → (length ls == 0) ≡ true → ls ≡ []
no_length [] h = refl
no_length (l ∷ ls) h = let e : length (l ∷ ls) ≡ 0 = (Decides-eqb (length (l ∷ ls)) 0).0 h in absurd (omega arith)

-- a list that is told to be empty is
pub nothing_left : (ls now : List Literal) (empty : Bool) → now ≡ ls → empty ≡ (length now == 0) → empty ≡ true → ls ≡ []
nothing_left ls now empty e f h = no_length ls (ap (λ (ks : List Literal). length ks == 0) (sym e) ∙ sym f ∙ h)

empty_from : (empty : Bool) → not empty ≡ false → empty ≡ true
empty_from true h = refl
empty_from false h = absurd (cc)

-- ends after which more may follow wherever there are some
pub plain_batch : (refuted : (ℕ → Start) → Bool) (vars : List VarId) (b : ℕ → Start) (n : ℕ) (ls : List Literal) (empty : Bool) → refuted b ≡ false → AreEnds refuted vars b n ls
    → (empty ≡ true → ls ≡ []) → IsBatch refuted vars b n (not empty) ls
plain_batch refuted vars b n ls empty stands ends none = record {
  stands = stands;
  ends = ends;
  last = λ h. subst (λ (ks : List Literal). IsQuiet refuted vars (cut_box b ks)) (sym (none (empty_from empty h))) (record { stands = stands; ends = ends.none (none (empty_from empty h)) });
}
