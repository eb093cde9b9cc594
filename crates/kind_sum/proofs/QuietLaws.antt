-- An upper bound on a sum: once all its ends are applied, nothing more follows.
use Rattle.std.proofs.Common.{◌≡◌, ℕ, suc, ◌<◌, ◌==◌, Bool, true, false, not, ◌&&◌, if◌then◌else◌, List, [], ◌∷◌, length, get_or, ℤ, pos, ◌+ℤ◌, ◌-ℤ◌, ◌*ℤ◌, ◌≤ℤ◌, ◌<ℤ◌, int_lt, ◌⊎◌, refl, sym, ◌∙◌, ap, subst, arith, inl, inr}
use Rattle.std.proofs.lemmas.Bool.Decides.{Decides-eqb}
use Rattle.std.proofs.lemmas.Int.{ints}
use Rattle.dom_core.specs.Ends.{Ends, scaled_ends}
use Rattle.dom_core.specs.Literal.{holds_at, is_end, negation}
use Rattle.dom_core.specs.declared.arg.Arg.{Arg}
use Rattle.dom_core.specs.declared.arg.Arg.TheVariants.{Var, Const}
use Rattle.dom_core.specs.declared.literal.Literal.{Literal}
use Rattle.dom_core.specs.declared.literal.Rel.{Rel}
use Rattle.dom_core.specs.declared.literal.Rel.TheVariants.{Le, Ge, Eq, Ne}
use Rattle.dom_core.specs.declared.var_id.VarId.{VarId}
use Rattle.dom_core.proofs.LiteralLaws.{le_holds, holds_le, ge_holds, holds_ge, negation_holds, end_negation}
use Rattle.dom_core.proofs.TestLaws.{and_first, and_second, and_both, not_both, true_or_false}
use Rattle.dom_cells.specs.Box.{AllSuit, Box, IsBox, cell_of, kept}
use Rattle.dom_cells.specs.Cell.{IsCell, IsSane, ends_of, has_of, hi_of, lo_of}
use Rattle.dom_cells.specs.declared.start.Start.{Start}
use Rattle.dom_cells.proofs.BoxLaws.{false_same, has-cut_all, holds_all, same_or_other, sane-cell, sane-cut_all}
use Rattle.dom_cells.proofs.KeptLaws.{suits_end}
use Rattle.kind_law.specs.Argument.{ArgHas, arg_ends}
use Rattle.kind_law.specs.Laws.{AllBelow, Each, EndsIn, hulls}
use Rattle.kind_law.specs.Next.{below, above, IsLowEnd, IsHighEnd, HasNoEnd, HasNoHighEnd, HasNoLowEnd}
use Rattle.kind_law.specs.Reason.{IsImplied}
use Rattle.kind_law.specs.Visit.{AllImplied, IsBatch, IsQuiet, IsVisited, cut_box}
use Rattle.kind_law.specs.declared.visited.Visited.{Visited}
use Rattle.kind_law.specs.declared.visited.Visited.TheVariants.{Ends as EndsTold}
use Rattle.kind_law.proofs.BoundLaws.{box-sane}
use Rattle.kind_law.proofs.ArgumentLaws.{each_distinct, same_var}
use Rattle.kind_law.proofs.BoundLaws.{in_kept, kept_has, kept_holds, kept_sane}
use Rattle.kind_law.proofs.ArgumentLaws.{join_arg}
use Rattle.kind_sum.specs.SumRelation.{SumRelation, sum_vars, SumFits, sum_refuted, may_follow}
use Rattle.kind_sum.specs.SumRelationLaws.{sum-fits}
use Rattle.kind_parts.specs.Relation.{refuted_by}
use Rattle.kind_sum.specs.Slack.{HasSingles, IsSlack}
use Rattle.kind_sum.specs.Sum.{total, vars_of}
use Rattle.kind_parts.specs.Told.{AreTold, IsTold}
use Rattle.dom_core.specs.declared.relation.Relation.{Relation}
use Rattle.dom_core.specs.declared.relation.Relation.TheVariants.{AtMost, Equal, Differ}
use Rattle.kind_sum.specs.declared.term.Term.{Term}
use Rattle.kind_sum.proofs.SlackLaws.{kept_total, own_has, slack_here}

-- ---- the end of a cell that the least sum has

-- the end of a term's interval that the least sum has
abbrev pub near : ℤ → Ends → ℤ
near c e = if int_lt c (pos 0) then e.hi else e.lo

near_scaled : (c : ℤ) (e d : Ends) → near c e ≡ near c d → (scaled_ends c e).lo ≡ (scaled_ends c d).lo
near_scaled c e d =
    elim (int_lt c (pos 0)) as (λ t. (if t then e.hi else e.lo) ≡ (if t then d.hi else d.lo) → (if t then c *ℤ e.hi else c *ℤ e.lo) ≡ (if t then c *ℤ d.hi else c *ℤ d.lo))
    [ true ↦ λ h. ap (λ (x : ℤ). c *ℤ x) h | false ↦ λ h. ap (λ (x : ℤ). c *ℤ x) h ]

same_low : (a b : ℤ) → a ≤ℤ b → b ≤ℤ a → a ≡ b
same_low a b h g = omega (arith, ints)

-- a cell within another that has its near end has the same one
same_near : (c : ℤ) (small large : Start) → IsSane small → IsSane large → ((x : ℤ) → has_of small x ≡ true → has_of large x ≡ true)
    → has_of small (near c (ends_of large)) ≡ true → near c (ends_of small) ≡ near c (ends_of large)
same_near c small large s l sub =
    let p : IsCell small = sane-cell small s in
    let q : IsCell large = sane-cell large l in
    elim (int_lt c (pos 0)) as (λ t. has_of small (if t then hi_of large else lo_of large) ≡ true → (if t then hi_of small else lo_of small) ≡ (if t then hi_of large else lo_of large)) [
      | true ↦ λ h. same_low (hi_of small) (hi_of large) (q.high (hi_of small) (sub (hi_of small) p.greatest)) (p.high (hi_of large) h)
      | false ↦ λ h. same_low (lo_of small) (lo_of large) (p.low (lo_of large) h) (q.low (lo_of small) (sub (lo_of small) p.least))
    ]

near_has : (c : ℤ) (s : Start) → IsSane s → has_of s (near c (ends_of s)) ≡ true
near_has c s h =
    let k : IsCell s = sane-cell s h in
    elim (int_lt c (pos 0)) as (λ t. has_of s (if t then hi_of s else lo_of s) ≡ true) [ true ↦ k.greatest | false ↦ k.least ]

-- ---- bounds and the least sum

refuted_low : (r : Relation) (t s : Ends) (c : ℤ) → r ≡ AtMost → t.lo ≡ s.lo → refuted_by r t c ≡ refuted_by r s c
refuted_low AtMost t s c a e = ap (λ (x : ℤ). int_lt c x) e
refuted_low Equal t s c a e = absurd (cc)
refuted_low Differ t s c a e = absurd (cc)

same_left : (a o n : ℤ) → n ≡ o → ((a -ℤ o) +ℤ n) ≡ a
same_left a o n e = omega (arith, ints)

-- a bound that leaves the near end of its variable leaves the answer
kept_same : (k : SumRelation) (c : ℤ) (known : Ends) (b : ℕ → Start) (u : VarId) (m : Literal) → IsSlack k c known b u → k.relation ≡ AtMost → m.var ≡ u
    → near c (ends_of (kept b m u.0)) ≡ near c (ends_of (b u.0)) → sum_refuted k (kept b m) ≡ sum_refuted k b
kept_same k c known b u m s a e h =
    refuted_low k.relation (total k.terms (arg_ends (hulls (kept b m)))) (total k.terms (arg_ends (hulls b))) k.bound a
    (ap (λ (t : Ends). t.lo) (kept_total k c known b u m s e)
    ∙ same_left known.lo (scaled_ends c (ends_of (b u.0))).lo (scaled_ends c (ends_of (kept b m u.0))).lo (near_scaled c (ends_of (kept b m u.0)) (ends_of (b u.0)) h)
    ∙ ap (λ (t : Ends). t.lo) s.sum)

at_own : (b : ℕ → Start) (m : Literal) (u : VarId) → m.var ≡ u → (x : ℤ) → has_of (b u.0) x ≡ true → has_of (b m.var.0) x ≡ true
at_own b m u e x h = subst (λ (w : VarId). has_of (b w.0) x ≡ true) (sym e) h

bound_sane : (b : ℕ → Start) (m : Literal) (u : VarId) (x : ℤ) → m.var ≡ u → is_end m.rel ≡ true → IsSane (b u.0) → has_of (b u.0) x ≡ true → holds_at m x ≡ true → IsSane (kept b m u.0)
bound_sane b m u x e end s has holds = kept_sane b m u.0 x end (at_own b m u e x has) holds s

-- a bound that the near end meets leaves it
bound_near : (c : ℤ) (b : ℕ → Start) (m : Literal) (u : VarId) → m.var ≡ u → is_end m.rel ≡ true → IsSane (b u.0) → holds_at m (near c (ends_of (b u.0))) ≡ true
    → near c (ends_of (kept b m u.0)) ≡ near c (ends_of (b u.0))
bound_near c b m u e end s h =
    same_near c (kept b m u.0) (b u.0) (bound_sane b m u (near c (ends_of (b u.0))) e end s (near_has c (b u.0) s) h) s (λ x g. kept_has b m u.0 x end g)
    (in_kept b m u.0 (near c (ends_of (b u.0))) end (near_has c (b u.0) s) (λ _. h))

-- a box that stands is not refuted by such a bound
bound_stands : (k : SumRelation) (c : ℤ) (known : Ends) (b : ℕ → Start) (u : VarId) (m : Literal) → IsSlack k c known b u → k.relation ≡ AtMost → m.var ≡ u → is_end m.rel ≡ true
    → IsSane (b u.0) → sum_refuted k b ≡ false → holds_at m (near c (ends_of (b u.0))) ≡ true → sum_refuted k (kept b m) ≡ false
bound_stands k c known b u m s a e end sane f h = kept_same k c known b u m s a e (bound_near c b m u e end sane h) ∙ f

pub no_low : (k : SumRelation) (c : ℤ) (known : Ends) (b : ℕ → Start) (u : VarId) → IsSlack k c known b u → k.relation ≡ AtMost → int_lt c (pos 0) ≡ false → IsSane (b u.0)
    → sum_refuted k b ≡ false → HasNoLowEnd (sum_refuted k) b u
no_low k c known b u s a sign sane f v h =
    let lo : near c (ends_of (b u.0)) ≡ lo_of (b u.0) = ap (λ (t : Bool). if t then hi_of (b u.0) else lo_of (b u.0)) sign in
    let low : lo_of (b u.0) <ℤ v = h.low in
    not_both (sum_refuted k (kept b (below u v))) h.refutes
    (bound_stands k c known b u (below u v) s a refl refl sane f (ap (holds_at (below u v)) lo ∙ holds_le (below u v) (lo_of (b u.0)) refl (omega (arith, ints))))

pub no_high : (k : SumRelation) (c : ℤ) (known : Ends) (b : ℕ → Start) (u : VarId) → IsSlack k c known b u → k.relation ≡ AtMost → int_lt c (pos 0) ≡ true → IsSane (b u.0)
    → sum_refuted k b ≡ false → HasNoHighEnd (sum_refuted k) b u
no_high k c known b u s a sign sane f v h =
    let hi : near c (ends_of (b u.0)) ≡ hi_of (b u.0) = ap (λ (t : Bool). if t then hi_of (b u.0) else lo_of (b u.0)) sign in
    let high : v <ℤ hi_of (b u.0) = h.high in
    not_both (sum_refuted k (kept b (above u v))) h.refutes
    (bound_stands k c known b u (above u v) s a refl refl sane f (ap (holds_at (above u v)) hi ∙ holds_ge (above u v) (hi_of (b u.0)) refl (omega (arith, ints))))

-- ---- what is told leaves the near ends

-- an implied literal holds at the near end of its variable
implied_near : (k : SumRelation) (c : ℤ) (known : Ends) (b : ℕ → Start) (u : VarId) (l : Literal) → IsSlack k c known b u → k.relation ≡ AtMost → l.var ≡ u → IsSane (b u.0)
    → sum_refuted k b ≡ false → IsImplied (sum_refuted k) b l → holds_at l (near c (ends_of (b u.0))) ≡ true
implied_near k c known b u l s a e sane f i =
    elim (true_or_false (holds_at l (near c (ends_of (b u.0))))) [
      | inl t ↦ t
      | inr fails ↦ absurd (not_both (sum_refuted k (kept b (negation l))) i.refutes
          (bound_stands k c known b u (negation l) s a e (end_negation l.rel i.end_is) sane f (negation_holds l (near c (ends_of (b u.0))) ∙ ap not fails)))
    ]

at_literal : (v : ℕ) (l : Literal) (x : ℤ) → (v ≡ l.var.0 → holds_at l x ≡ true) → (if v == l.var.0 then holds_at l x else true) ≡ true
at_literal v l x h =
    elim (same_or_other v l.var.0) [
      | inl same ↦ ap (λ (t : Bool). if t then holds_at l x else true) ((Decides-eqb v l.var.0).1 same) ∙ h same
      | inr other ↦ ap (λ (t : Bool). if t then holds_at l x else true) (false_same v l.var.0 other)
    ]

all_near : (k : SumRelation) (c : ℤ) (known : Ends) (b : ℕ → Start) (u : VarId) (n : ℕ) (ls : List Literal) → IsSlack k c known b u → k.relation ≡ AtMost → IsSane (b u.0)
    → sum_refuted k b ≡ false → AllImplied (sum_refuted k) b n ls → holds_all u.0 ls (near c (ends_of (b u.0))) ≡ true
all_near k c known b u n [] s a sane f h = refl
all_near k c known b u n (l ∷ ls) s a sane f h =
    and_both (if u.0 == l.var.0 then holds_at l (near c (ends_of (b u.0))) else true) (holds_all u.0 ls (near c (ends_of (b u.0))))
    (at_literal u.0 l (near c (ends_of (b u.0))) (λ e. implied_near k c known b u l s a (same_var u l.var (sym e)) sane f h.1))
    (all_near k c known b u n ls s a sane f h.2)

all_suit : (refuted : (ℕ → Start) → Bool) (b : ℕ → Start) (n v : ℕ) (ls : List Literal) → AllImplied refuted b n ls → AllSuit v (b v) ls
all_suit refuted b n v [] h = tt
all_suit refuted b n v (l ∷ ls) h = ((λ e. suits_end (b v) l.rel h.1.end_is), all_suit refuted b n v ls h.2)

-- a cell that was cut has the values of which each literal holds
pub cut_has : (refuted : (ℕ → Start) → Bool) (b : ℕ → Start) (n v : ℕ) (ls : List Literal) (x : ℤ) → AllImplied refuted b n ls → has_of (cut_box b ls v) x ≡ (has_of (b v) x && holds_all v ls x)
cut_has refuted b n v ls x h = has-cut_all v (b v) ls x (all_suit refuted b n v ls h)

-- ends hold between numbers of which they hold
end_between : (l : Literal) (r : Rel) (p x q : ℤ) → l.rel ≡ r → is_end r ≡ true → p ≤ℤ x → x ≤ℤ q → holds_at l p ≡ true → holds_at l q ≡ true → holds_at l x ≡ true
end_between l Le p x q e end low high h g = let m : q ≤ℤ l.value = le_holds l q e g in holds_le l x e (omega (arith, ints))
end_between l Ge p x q e end low high h g = let m : l.value ≤ℤ p = ge_holds l p e h in holds_ge l x e (omega (arith, ints))
end_between l Eq p x q e end low high h g = absurd (cc)
end_between l Ne p x q e end low high h g = absurd (cc)

from_literal : (v : ℕ) (l : Literal) (x : ℤ) → (if v == l.var.0 then holds_at l x else true) ≡ true → v ≡ l.var.0 → holds_at l x ≡ true
from_literal v l x h e = ap (λ (t : Bool). if t then holds_at l x else true) (sym ((Decides-eqb v l.var.0).1 e)) ∙ h

all_between : (refuted : (ℕ → Start) → Bool) (b : ℕ → Start) (n v : ℕ) (ls : List Literal) (p x q : ℤ) → AllImplied refuted b n ls → p ≤ℤ x → x ≤ℤ q
    → holds_all v ls p ≡ true → holds_all v ls q ≡ true → holds_all v ls x ≡ true
all_between refuted b n v [] p x q h low high f g = refl
all_between refuted b n v (l ∷ ls) p x q h low high f g =
    and_both (if v == l.var.0 then holds_at l x else true) (holds_all v ls x)
    (at_literal v l x (λ e. end_between l l.rel p x q refl h.1.end_is low high
    (from_literal v l p (and_first (if v == l.var.0 then holds_at l p else true) (holds_all v ls p) f) e)
    (from_literal v l q (and_first (if v == l.var.0 then holds_at l q else true) (holds_all v ls q) g) e)))
    (all_between refuted b n v ls p x q h.2 low high (and_second (if v == l.var.0 then holds_at l p else true) (holds_all v ls p) f)
    (and_second (if v == l.var.0 then holds_at l q else true) (holds_all v ls q) g))

-- ---- a variable once the ends are applied

-- literals that a bound on a sum implies, and one of its terms, which is the only one with its variable
pub record IsApplied (k : SumRelation) (c : ℤ) (known : Ends) (b : ℕ → Start) (n : ℕ) (u : VarId) (ls : List Literal) : Type 0 where
  pub slack : IsSlack k c known b u
  pub bound : k.relation ≡ AtMost
  pub sane : IsSane (b u.0)
  pub stands : sum_refuted k b ≡ false
  pub implied : AllImplied (sum_refuted k) b n ls

near_left : (k : SumRelation) (c : ℤ) (known : Ends) (b : ℕ → Start) (n : ℕ) (u : VarId) (ls : List Literal) → IsApplied k c known b n u ls
    → has_of (cut_box b ls u.0) (near c (ends_of (b u.0))) ≡ true
near_left k c known b n u ls a =
    cut_has (sum_refuted k) b n u.0 ls (near c (ends_of (b u.0))) a.implied
    ∙ and_both (has_of (b u.0) (near c (ends_of (b u.0)))) (holds_all u.0 ls (near c (ends_of (b u.0)))) (near_has c (b u.0) a.sane)
    (all_near k c known b u n ls a.slack a.bound a.sane a.stands a.implied)

pub cut_sane : (k : SumRelation) (c : ℤ) (known : Ends) (b : ℕ → Start) (n : ℕ) (u : VarId) (ls : List Literal) → IsApplied k c known b n u ls → IsSane (cut_box b ls u.0)
cut_sane k c known b n u ls a =
    sane-cut_all u.0 (b u.0) ls (near c (ends_of (b u.0))) (all_suit (sum_refuted k) b n u.0 ls a.implied) a.sane (near_left k c known b n u ls a)

cut_in : (k : SumRelation) (c : ℤ) (known : Ends) (b : ℕ → Start) (n : ℕ) (u : VarId) (ls : List Literal) → IsApplied k c known b n u ls → (x : ℤ)
    → has_of (cut_box b ls u.0) x ≡ true → (has_of (b u.0) x ≡ true) × (holds_all u.0 ls x ≡ true)
cut_in k c known b n u ls a x h =
    let both : (has_of (b u.0) x && holds_all u.0 ls x) ≡ true = sym (cut_has (sum_refuted k) b n u.0 ls x a.implied) ∙ h in
    (and_first (has_of (b u.0) x) (holds_all u.0 ls x) both, and_second (has_of (b u.0) x) (holds_all u.0 ls x) both)

pub cut_near : (k : SumRelation) (c : ℤ) (known : Ends) (b : ℕ → Start) (n : ℕ) (u : VarId) (ls : List Literal) → IsApplied k c known b n u ls
    → near c (ends_of (cut_box b ls u.0)) ≡ near c (ends_of (b u.0))
cut_near k c known b n u ls a =
    same_near c (cut_box b ls u.0) (b u.0) (cut_sane k c known b n u ls a) a.sane (λ x h. (cut_in k c known b n u ls a x h).0) (near_left k c known b n u ls a)

same_sums : (a o n d p m : ℤ) → a ≡ d → o ≡ p → n ≡ m → ((a -ℤ o) +ℤ n) ≡ ((d -ℤ p) +ℤ m)
same_sums a o n d p m e f g = omega (arith, ints)

-- a bound refutes both boxes, or neither, where it leaves both the same near end
both_refuted : (k : SumRelation) (c : ℤ) (known after : Ends) (b : ℕ → Start) (n : ℕ) (u : VarId) (ls : List Literal) (m : Literal) → IsApplied k c known b n u ls
    → IsSlack k c after (cut_box b ls) u → after.lo ≡ known.lo → m.var ≡ u
    → near c (ends_of (kept (cut_box b ls) m u.0)) ≡ near c (ends_of (kept b m u.0)) → sum_refuted k (kept b m) ≡ sum_refuted k (kept (cut_box b ls) m)
both_refuted k c known after b n u ls m a s lo e h =
    refuted_low k.relation (total k.terms (arg_ends (hulls (kept b m)))) (total k.terms (arg_ends (hulls (kept (cut_box b ls) m)))) k.bound a.bound
    (ap (λ (t : Ends). t.lo) (kept_total k c known b u m a.slack e)
    ∙ same_sums known.lo (scaled_ends c (ends_of (b u.0))).lo (scaled_ends c (ends_of (kept b m u.0))).lo after.lo (scaled_ends c (ends_of (cut_box b ls u.0))).lo (scaled_ends c (ends_of (kept (cut_box b ls) m u.0))).lo
    (sym lo) (near_scaled c (ends_of (b u.0)) (ends_of (cut_box b ls u.0)) (sym (cut_near k c known b n u ls a)))
    (near_scaled c (ends_of (kept b m u.0)) (ends_of (kept (cut_box b ls) m u.0)) (sym h))
    ∙ sym (ap (λ (t : Ends). t.lo) (kept_total k c after (cut_box b ls) u m s e)))

-- a value of the larger box that lies between values of the smaller one and the near end is left
value_left : (k : SumRelation) (c : ℤ) (known : Ends) (b : ℕ → Start) (n : ℕ) (u : VarId) (ls : List Literal) (p x q : ℤ) → IsApplied k c known b n u ls
    → has_of (b u.0) x ≡ true → p ≤ℤ x → x ≤ℤ q → holds_all u.0 ls p ≡ true → holds_all u.0 ls q ≡ true → has_of (cut_box b ls u.0) x ≡ true
value_left k c known b n u ls p x q a has low high f g =
    cut_has (sum_refuted k) b n u.0 ls x a.implied
    ∙ and_both (has_of (b u.0) x) (holds_all u.0 ls x) has (all_between (sum_refuted k) b n u.0 ls p x q a.implied low high f g)

less_than : (v p x : ℤ) → p <ℤ v → v ≤ℤ p → ⊥
less_than v p x h g = omega (arith, ints)

far_low : (k : SumRelation) (c : ℤ) (known after : Ends) (b : ℕ → Start) (n : ℕ) (u : VarId) (ls : List Literal) → IsApplied k c known b n u ls → IsSlack k c after (cut_box b ls) u
    → after.lo ≡ known.lo → IsTold (sum_refuted k) b ls u → int_lt c (pos 0) ≡ true → HasNoLowEnd (sum_refuted k) (cut_box b ls) u
far_low k c known after b n u ls a s lo told sign v h =
    let hi_near : (d : Start) → near c (ends_of d) ≡ hi_of d = λ d. ap (λ (t : Bool). if t then hi_of d else lo_of d) sign in
    let cell : IsCell (cut_box b ls u.0) = sane-cell (cut_box b ls u.0) (cut_sane k c known b n u ls a) in
    let large : IsCell (b u.0) = sane-cell (b u.0) a.sane in
    let first = cut_in k c known b n u ls a (lo_of (cut_box b ls u.0)) cell.least in
    let last = cut_in k c known b n u ls a (hi_of (cut_box b ls u.0)) cell.greatest in
    let low : lo_of (cut_box b ls u.0) <ℤ v = h.low in
    let high : v ≤ℤ hi_of (cut_box b ls u.0) = h.high in
    let meets : holds_at (below u v) (lo_of (cut_box b ls u.0)) ≡ true = holds_le (below u v) (lo_of (cut_box b ls u.0)) refl (omega (arith, ints)) in
    let sane : IsSane (kept b (below u v) u.0) = bound_sane b (below u v) u (lo_of (cut_box b ls u.0)) refl refl a.sane first.0 meets in
    let part : IsCell (kept b (below u v) u.0) = sane-cell (kept b (below u v) u.0) sane in
    let top : has_of (b u.0) (hi_of (kept b (below u v) u.0)) ≡ true = kept_has b (below u v) u.0 (hi_of (kept b (below u v) u.0)) refl part.greatest in
    let under : holds_at (below u v) (hi_of (kept b (below u v) u.0)) ≡ true = kept_holds b (below u v) (hi_of (kept b (below u v) u.0)) refl part.greatest in
    let above_low : lo_of (cut_box b ls u.0) ≤ℤ hi_of (kept b (below u v) u.0) =
    part.high (lo_of (cut_box b ls u.0)) (in_kept b (below u v) u.0 (lo_of (cut_box b ls u.0)) refl first.0 (λ _. meets)) in
    let left : has_of (cut_box b ls u.0) (hi_of (kept b (below u v) u.0)) ≡ true =
    value_left k c known b n u ls (lo_of (cut_box b ls u.0)) (hi_of (kept b (below u v) u.0)) (near c (ends_of (b u.0))) a top above_low
    (subst (λ (x : ℤ). hi_of (kept b (below u v) u.0) ≤ℤ x) (sym (hi_near (b u.0))) (large.high (hi_of (kept b (below u v) u.0)) top)) first.1
    (all_near k c known b u n ls a.slack a.bound a.sane a.stands a.implied) in
    let near_same : near c (ends_of (kept (cut_box b ls) (below u v) u.0)) ≡ near c (ends_of (kept b (below u v) u.0)) =
    same_near c (kept (cut_box b ls) (below u v) u.0) (kept b (below u v) u.0)
    (bound_sane (cut_box b ls) (below u v) u (lo_of (cut_box b ls u.0)) refl refl (cut_sane k c known b n u ls a) cell.least meets) sane
    (λ x g. in_kept b (below u v) u.0 x refl (cut_in k c known b n u ls a x (kept_has (cut_box b ls) (below u v) u.0 x refl g)).0 (λ _. kept_holds (cut_box b ls) (below u v) x refl g))
    (subst (λ (x : ℤ). has_of (kept (cut_box b ls) (below u v) u.0) x ≡ true) (sym (hi_near (kept b (below u v) u.0)))
    (in_kept (cut_box b ls) (below u v) u.0 (hi_of (kept b (below u v) u.0)) refl left (λ _. under))) in
    let own : IsLowEnd (sum_refuted k) b u v = record {
      low = (let le : lo_of (b u.0) ≤ℤ lo_of (cut_box b ls u.0) = large.low (lo_of (cut_box b ls u.0)) first.0 in omega (arith, ints));
      high = (let le : hi_of (cut_box b ls u.0) ≤ℤ hi_of (b u.0) = large.high (hi_of (cut_box b ls u.0)) last.0 in omega (arith, ints));
      refutes = both_refuted k c known after b n u ls (below u v) a s lo refl near_same ∙ h.refutes;
    } in
    less_than v (lo_of (cut_box b ls u.0)) v low (told.low v (lo_of (cut_box b ls u.0)) own cell.least)

far_high : (k : SumRelation) (c : ℤ) (known after : Ends) (b : ℕ → Start) (n : ℕ) (u : VarId) (ls : List Literal) → IsApplied k c known b n u ls → IsSlack k c after (cut_box b ls) u
    → after.lo ≡ known.lo → IsTold (sum_refuted k) b ls u → int_lt c (pos 0) ≡ false → HasNoHighEnd (sum_refuted k) (cut_box b ls) u
far_high k c known after b n u ls a s lo told sign v h =
    let lo_near : (d : Start) → near c (ends_of d) ≡ lo_of d = λ d. ap (λ (t : Bool). if t then hi_of d else lo_of d) sign in
    let cell : IsCell (cut_box b ls u.0) = sane-cell (cut_box b ls u.0) (cut_sane k c known b n u ls a) in
    let large : IsCell (b u.0) = sane-cell (b u.0) a.sane in
    let first = cut_in k c known b n u ls a (lo_of (cut_box b ls u.0)) cell.least in
    let last = cut_in k c known b n u ls a (hi_of (cut_box b ls u.0)) cell.greatest in
    let low : lo_of (cut_box b ls u.0) ≤ℤ v = h.low in
    let high : v <ℤ hi_of (cut_box b ls u.0) = h.high in
    let meets : holds_at (above u v) (hi_of (cut_box b ls u.0)) ≡ true = holds_ge (above u v) (hi_of (cut_box b ls u.0)) refl (omega (arith, ints)) in
    let sane : IsSane (kept b (above u v) u.0) = bound_sane b (above u v) u (hi_of (cut_box b ls u.0)) refl refl a.sane last.0 meets in
    let part : IsCell (kept b (above u v) u.0) = sane-cell (kept b (above u v) u.0) sane in
    let bottom : has_of (b u.0) (lo_of (kept b (above u v) u.0)) ≡ true = kept_has b (above u v) u.0 (lo_of (kept b (above u v) u.0)) refl part.least in
    let over : holds_at (above u v) (lo_of (kept b (above u v) u.0)) ≡ true = kept_holds b (above u v) (lo_of (kept b (above u v) u.0)) refl part.least in
    let below_high : lo_of (kept b (above u v) u.0) ≤ℤ hi_of (cut_box b ls u.0) =
    part.low (hi_of (cut_box b ls u.0)) (in_kept b (above u v) u.0 (hi_of (cut_box b ls u.0)) refl last.0 (λ _. meets)) in
    let left : has_of (cut_box b ls u.0) (lo_of (kept b (above u v) u.0)) ≡ true =
    value_left k c known b n u ls (near c (ends_of (b u.0))) (lo_of (kept b (above u v) u.0)) (hi_of (cut_box b ls u.0)) a bottom
    (subst (λ (x : ℤ). x ≤ℤ lo_of (kept b (above u v) u.0)) (sym (lo_near (b u.0))) (large.low (lo_of (kept b (above u v) u.0)) bottom)) below_high
    (all_near k c known b u n ls a.slack a.bound a.sane a.stands a.implied) last.1 in
    let near_same : near c (ends_of (kept (cut_box b ls) (above u v) u.0)) ≡ near c (ends_of (kept b (above u v) u.0)) =
    same_near c (kept (cut_box b ls) (above u v) u.0) (kept b (above u v) u.0)
    (bound_sane (cut_box b ls) (above u v) u (hi_of (cut_box b ls u.0)) refl refl (cut_sane k c known b n u ls a) cell.greatest meets) sane
    (λ x g. in_kept b (above u v) u.0 x refl (cut_in k c known b n u ls a x (kept_has (cut_box b ls) (above u v) u.0 x refl g)).0 (λ _. kept_holds (cut_box b ls) (above u v) x refl g))
    (subst (λ (x : ℤ). has_of (kept (cut_box b ls) (above u v) u.0) x ≡ true) (sym (lo_near (kept b (above u v) u.0)))
    (in_kept (cut_box b ls) (above u v) u.0 (lo_of (kept b (above u v) u.0)) refl left (λ _. over))) in
    let own : IsHighEnd (sum_refuted k) b u v = record {
      low = (let le : lo_of (b u.0) ≤ℤ lo_of (cut_box b ls u.0) = large.low (lo_of (cut_box b ls u.0)) first.0 in omega (arith, ints));
      high = (let le : hi_of (cut_box b ls u.0) ≤ℤ hi_of (b u.0) = large.high (hi_of (cut_box b ls u.0)) last.0 in omega (arith, ints));
      refutes = both_refuted k c known after b n u ls (above u v) a s lo refl near_same ∙ h.refutes;
    } in
    less_than (hi_of (cut_box b ls u.0)) v v high (told.high v (hi_of (cut_box b ls u.0)) (no_low k c known b u a.slack a.bound sign a.sane a.stands) own cell.greatest)

-- no end of the variable is implied any more
pub quiet_var : (k : SumRelation) (c : ℤ) (known after : Ends) (b : ℕ → Start) (n : ℕ) (u : VarId) (ls : List Literal) → IsApplied k c known b n u ls → IsSlack k c after (cut_box b ls) u
    → after.lo ≡ known.lo → sum_refuted k (cut_box b ls) ≡ false → IsTold (sum_refuted k) b ls u → HasNoEnd (sum_refuted k) (cut_box b ls) u
quiet_var k c known after b n u ls a s lo stands told =
    elim (true_or_false (int_lt c (pos 0))) [
      | inl minus ↦ record {
        low = far_low k c known after b n u ls a s lo told minus;
        high = no_high k c after (cut_box b ls) u s a.bound minus (cut_sane k c known b n u ls a) stands;
      }
      | inr plus ↦ record {
        low = no_low k c after (cut_box b ls) u s a.bound plus (cut_sane k c known b n u ls a) stands;
        high = far_high k c known after b n u ls a s lo told plus;
      }
    ]

-- ---- the whole sum

-- each term
abbrev AllTerms : (Term → Type 0) → List Term → Type 0
AllTerms P [] = Unit {0}
AllTerms P (t ∷ ts) = P t × AllTerms P ts

from_places : (P : Term → Type 0) (ts : List Term) (d : Term) → ((i : ℕ) → i < length ts → P (get_or ts i d)) → AllTerms P ts
from_places P [] d f = tt
from_places P (t ∷ ts) d f = (f 0 (omega arith), from_places P ts d (λ i lt. f (suc i) (omega arith)))

arg_map : (P Q : VarId → Type 0) (x : Arg) → ((u : VarId) → P u → Q u) → ArgHas P x → ArgHas Q x
arg_map P Q (Var u) f h = f u h
arg_map P Q (Const c) f h = tt

vars_terms : (P : VarId → Type 0) (ts : List Term) → AllTerms (λ t. ArgHas P t.arg) ts → Each P (vars_of ts)
vars_terms P [] h = tt
vars_terms P (t ∷ ts) h = join_arg P t.arg (vars_of ts) h.0 (vars_terms P ts h.1)

added : (a b c d : ℤ) → a ≡ b → c ≡ d → (a +ℤ c) ≡ (b +ℤ d)
added a b c d e f = omega (arith, ints)

arg_low : (c : ℤ) (s r : ℕ → Ends) (x : Arg) → ArgHas (λ u. near c (s u.0) ≡ near c (r u.0)) x → (scaled_ends c (arg_ends s x)).lo ≡ (scaled_ends c (arg_ends r x)).lo
arg_low c s r (Var u) h = near_scaled c (s u.0) (r u.0) h
arg_low c s r (Const v) h = refl

low_same : (ts : List Term) (s r : ℕ → Ends) → AllTerms (λ t. ArgHas (λ u. near t.coef (s u.0) ≡ near t.coef (r u.0)) t.arg) ts → (total ts (arg_ends s)).lo ≡ (total ts (arg_ends r)).lo
low_same [] s r h = refl
low_same (t ∷ ts) s r h =
    added (scaled_ends t.coef (arg_ends s t.arg)).lo (scaled_ends t.coef (arg_ends r t.arg)).lo (total ts (arg_ends s)).lo (total ts (arg_ends r)).lo
    (arg_low t.coef s r t.arg h.0) (low_same ts s r h.1)

-- a bound on a sum that stands, and all its ends
pub record IsToldBound (k : SumRelation) (b : ℕ → Start) (n : ℕ) (ls : List Literal) : Type 0 where
  pub single : HasSingles k
  pub bound : k.relation ≡ AtMost
  pub fits : SumFits k (hulls b)
  pub sane : Each (λ u. IsSane (b u.0)) (sum_vars k)
  pub stands : sum_refuted k b ≡ false
  pub told : AreTold (sum_refuted k) (sum_vars k) b n ls

-- what reads beyond the terms would give
abbrev none : Term
none = record { coef = pos 0; arg = Var (record { 0 = 0 }) }

arg_applied : (k : SumRelation) (b : ℕ → Start) (n : ℕ) (ls : List Literal) (i : ℕ) (x : Arg) → IsToldBound k b n ls → i < length k.terms → (get_or k.terms i none).arg ≡ x
    → ArgHas (λ u. IsApplied k (get_or k.terms i none).coef (total k.terms (arg_ends (hulls b))) b n u ls) x
arg_applied k b n ls i (Var u) a lt e =
    let s : IsSlack k (get_or k.terms i none).coef (total k.terms (arg_ends (hulls b))) b u = slack_here k i none u (total k.terms (arg_ends (hulls b))) b lt e a.single refl a.fits in
    record {
      slack = s;
      bound = a.bound;
      sane = own_has (λ w. IsSane (b w.0)) k (get_or k.terms i none).coef (total k.terms (arg_ends (hulls b))) b u s a.sane;
      stands = a.stands;
      implied = a.told.ends.implied;
    }
arg_applied k b n ls i (Const c) a lt e = tt

cut_within : (k : SumRelation) (c : ℤ) (known : Ends) (b : ℕ → Start) (n : ℕ) (u : VarId) (ls : List Literal) → IsApplied k c known b n u ls
    → EndsIn (ends_of (cut_box b ls u.0)) (ends_of (b u.0))
cut_within k c known b n u ls a =
    let cell : IsCell (cut_box b ls u.0) = sane-cell (cut_box b ls u.0) (cut_sane k c known b n u ls a) in
    let large : IsCell (b u.0) = sane-cell (b u.0) a.sane in
    record {
      low = large.low (lo_of (cut_box b ls u.0)) (cut_in k c known b n u ls a (lo_of (cut_box b ls u.0)) cell.least).0;
      order = cell.low (hi_of (cut_box b ls u.0)) cell.greatest;
      high = large.high (hi_of (cut_box b ls u.0)) (cut_in k c known b n u ls a (hi_of (cut_box b ls u.0)) cell.greatest).0;
    }

low_stays : (k : SumRelation) (b : ℕ → Start) (n : ℕ) (ls : List Literal) → IsToldBound k b n ls
    → (total k.terms (arg_ends (hulls (cut_box b ls)))).lo ≡ (total k.terms (arg_ends (hulls b))).lo
low_stays k b n ls a =
    low_same k.terms (hulls (cut_box b ls)) (hulls b)
    (from_places (λ t. ArgHas (λ u. near t.coef (ends_of (cut_box b ls u.0)) ≡ near t.coef (ends_of (b u.0))) t.arg) k.terms none
    (λ i lt. arg_map (λ u. IsApplied k (get_or k.terms i none).coef (total k.terms (arg_ends (hulls b))) b n u ls)
    (λ u. near (get_or k.terms i none).coef (ends_of (cut_box b ls u.0)) ≡ near (get_or k.terms i none).coef (ends_of (b u.0))) (get_or k.terms i none).arg
    (λ u p. cut_near k (get_or k.terms i none).coef (total k.terms (arg_ends (hulls b))) b n u ls p) (arg_applied k b n ls i (get_or k.terms i none).arg a lt refl)))

cut_fits : (k : SumRelation) (b : ℕ → Start) (n : ℕ) (ls : List Literal) → IsToldBound k b n ls → SumFits k (hulls (cut_box b ls))
cut_fits k b n ls a =
    sum-fits k (hulls (cut_box b ls)) (hulls b) (record {
      parts = each_distinct (λ u. EndsIn (hulls (cut_box b ls) u.0) (hulls b u.0)) (vars_of k.terms)
          (vars_terms (λ u. EndsIn (hulls (cut_box b ls) u.0) (hulls b u.0)) k.terms
          (from_places (λ t. ArgHas (λ u. EndsIn (hulls (cut_box b ls) u.0) (hulls b u.0)) t.arg) k.terms none
          (λ i lt. arg_map (λ u. IsApplied k (get_or k.terms i none).coef (total k.terms (arg_ends (hulls b))) b n u ls)
          (λ u. EndsIn (hulls (cut_box b ls) u.0) (hulls b u.0)) (get_or k.terms i none).arg
          (λ u p. cut_within k (get_or k.terms i none).coef (total k.terms (arg_ends (hulls b))) b n u ls p) (arg_applied k b n ls i (get_or k.terms i none).arg a lt refl))));
    }) a.fits

cut_stands : (k : SumRelation) (b : ℕ → Start) (n : ℕ) (ls : List Literal) → IsToldBound k b n ls → sum_refuted k (cut_box b ls) ≡ false
cut_stands k b n ls a =
    refuted_low k.relation (total k.terms (arg_ends (hulls (cut_box b ls)))) (total k.terms (arg_ends (hulls b))) k.bound a.bound (low_stays k b n ls a) ∙ a.stands

arg_quiet : (k : SumRelation) (b : ℕ → Start) (n : ℕ) (ls : List Literal) (i : ℕ) (x : Arg) → IsToldBound k b n ls → i < length k.terms → (get_or k.terms i none).arg ≡ x
    → ArgHas (HasNoEnd (sum_refuted k) (cut_box b ls)) x
arg_quiet k b n ls i (Var u) a lt e =
    let p : IsApplied k (get_or k.terms i none).coef (total k.terms (arg_ends (hulls b))) b n u ls = arg_applied k b n ls i (Var u) a lt e in
    quiet_var k (get_or k.terms i none).coef (total k.terms (arg_ends (hulls b))) (total k.terms (arg_ends (hulls (cut_box b ls)))) b n u ls p
    (slack_here k i none u (total k.terms (arg_ends (hulls (cut_box b ls)))) (cut_box b ls) lt e a.single refl (cut_fits k b n ls a))
    (low_stays k b n ls a) (cut_stands k b n ls a)
    (own_has (IsTold (sum_refuted k) b ls) k (get_or k.terms i none).coef (total k.terms (arg_ends (hulls b))) b u p.slack a.told.told)
arg_quiet k b n ls i (Const c) a lt e = tt

-- once all ends of a bound on a sum are applied, nothing more follows
pub quiet_after : (k : SumRelation) (b : ℕ → Start) (n : ℕ) (ls : List Literal) → IsToldBound k b n ls → IsQuiet (sum_refuted k) (sum_vars k) (cut_box b ls)
quiet_after k b n ls a = record {
  stands = cut_stands k b n ls a;
  ends = each_distinct (HasNoEnd (sum_refuted k) (cut_box b ls)) (vars_of k.terms)
      (vars_terms (HasNoEnd (sum_refuted k) (cut_box b ls)) k.terms
      (from_places (λ t. ArgHas (HasNoEnd (sum_refuted k) (cut_box b ls)) t.arg) k.terms none (λ i lt. arg_quiet k b n ls i (get_or k.terms i none).arg a lt refl)));
}

follows_not : (r : Relation) → may_follow r ≡ false → r ≡ AtMost
follows_not AtMost h = refl
follows_not Equal h = absurd (cc)
follows_not Differ h = absurd (cc)

empty_quiet : (k : SumRelation) (b : ℕ → Start) (n : ℕ) (ls : List Literal) → ls ≡ [] → sum_refuted k b ≡ false → AreTold (sum_refuted k) (sum_vars k) b n ls
    → IsQuiet (sum_refuted k) (sum_vars k) (cut_box b ls)
empty_quiet k b n ls e stands told = subst (λ (ks : List Literal). IsQuiet (sum_refuted k) (sum_vars k) (cut_box b ks)) (sym e) (record { stands = stands; ends = told.ends.none e })

and_fails : (p q : Bool) → (p && not q) ≡ false → (p ≡ false) ⊎ (q ≡ true)
and_fails true true h = inr refl
and_fails true false h = absurd (cc)
and_fails false q h = inl refl

-- what is told of a sum at once
pub told_batch : (k : SumRelation) (b : ℕ → Start) (n : ℕ) (ls : List Literal) (more empty : Bool) → HasSingles k → SumFits k (hulls b) → Each (λ u. IsSane (b u.0)) (sum_vars k)
    → sum_refuted k b ≡ false → AreTold (sum_refuted k) (sum_vars k) b n ls → (empty ≡ true → ls ≡ []) → more ≡ (may_follow k.relation && not empty)
    → IsBatch (sum_refuted k) (sum_vars k) b n more ls
told_batch k b n ls more empty single fits sane stands told none e = record {
  stands = stands;
  ends = told.ends;
  last = λ h. elim (and_fails (may_follow k.relation) empty (sym e ∙ h)) [
    | inl bound ↦ quiet_after k b n ls (record { single = single; bound = follows_not k.relation bound; fits = fits; sane = sane; stands = stands; told = told })
    | inr nothing ↦ empty_quiet k b n ls (none nothing) stands told
  ];
}

-- what a visit tells where the sum isn't refuted
pub told_visited : (k : SumRelation) (m : Box) (ls : List Literal) (empty : Bool) (v : Visited) → IsBox m → AllBelow (length m.starts) (sum_vars k) → HasSingles k
    → SumFits k (hulls (cell_of m)) → sum_refuted k (cell_of m) ≡ false → AreTold (sum_refuted k) (sum_vars k) (cell_of m) (length m.starts) ls → (empty ≡ true → ls ≡ [])
    → v ≡ EndsTold (may_follow k.relation && not empty) → IsVisited (sum_refuted k) (sum_vars k) (cell_of m) (length m.starts) v ls
told_visited k m ls empty v box below single fits stands told none e =
    subst (λ (w : Visited). IsVisited (sum_refuted k) (sum_vars k) (cell_of m) (length m.starts) w ls) (sym e)
    (told_batch k (cell_of m) (length m.starts) ls (may_follow k.relation && not empty) empty single fits (box-sane m (sum_vars k) box below) stands told none refl)
