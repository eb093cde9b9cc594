-- The kind refutes the starts against its reason.
use Rattle.std.proofs.Common.{◌≡◌, ℕ, ◌+◌, ◌<◌, ◌≤◌, ◌==◌, Bool, true, false, not, ◌&&◌, ◌||◌, List, [], ◌∷◌, ◌++◌, length, map, take, get_or, ℤ, pos, ◌+ℤ◌, ◌-ℤ◌, ◌<ℤ◌, ◌≤ℤ◌, if◌then◌else◌, refl, sym, ◌∙◌, ap, subst, arith, inl, inr, Option, Some, None, append_assoc, append-nil, slice_get, int_le, suc}
use Rattle.std.proofs.lemmas.Int.{ints}
use Rattle.std.proofs.lemmas.Bool.Decides.{Decides-eqb}
use Rattle.std.specs.Option.{option_to_list}
use Rattle.std.proofs.lemmas.Option.{get_or_from_slice_get, slice_get_within}
use Rattle.std.proofs.Common.{below_more}
use Rattle.dom_core.specs.Rises.{is_among}
use Rattle.dom_cells.specs.Box.{Box, start_at, cell_of, against, kept, cut_all, AllSuit, IsBox}
use Rattle.dom_cells.specs.Cell.{has_of, lo_of, hi_of, cut_lo, cut_hi, Suits, IsSane, IsCell, IsPart, IsPossible}
use Rattle.dom_core.specs.Literal.{holds_at, is_end, negation, opposite}
use Rattle.dom_core.specs.declared.literal.Literal.{Literal}
use Rattle.dom_core.specs.declared.literal.Rel.{Rel}
use Rattle.dom_core.specs.declared.literal.Rel.TheVariants.{Le, Ge, Eq, Ne}
use Rattle.dom_cells.specs.declared.start.Start.{Start}
use Rattle.dom_cells.specs.declared.start.Start.TheVariants.{Values, Span}
use Rattle.dom_core.specs.declared.var_id.VarId.{VarId}
use Rattle.dom_cells.proofs.BoxLaws.{sane-cell, has-cut_all, sane-cut_all, holds_all, suits-negation, same_or_other, false_same, cut_at-other, cut_at-same}
use Rattle.dom_core.proofs.TestLaws.{true_le, and_first, and_second, and_both, true_or_false, not_both, not_true}
use Rattle.dom_core.proofs.LiteralLaws.{holds_le, fails_le, holds_ge, fails_ge, holds_eq, fails_eq, negation_holds, end_negation}
use Rattle.dom_cells.proofs.KeptLaws.{suits_end}
use Rattle.dom_core.proofs.RisesLaws.{or_right, among_read, among_cases}
use Rattle.kind_law.specs.Laws.{Each, AllBelow, ShrinkLaw}
use Rattle.kind_law.specs.Next.{IsEndOf, IsNext}
use Rattle.kind_law.specs.Reason.{IsImplied, IsCause, IsRead, IsFine, AllFine, IsReason, survives, looks, AddsFine, CoversLow, CoversHigh, CoversValue, CoversInside, CoversVar, IsListedAt}
use Rattle.kind_law.proofs.BoundLaws.{part, holds_there, kept_has, in_kept, kept_sane}
use Rattle.kind_law.proofs.EachLaws.{each_at, each_map, each_both, each_more}

-- ---- lists that grow

pub adds-none : (m : Box) (ls : List Literal) → AddsFine m ls ls
adds-none m ls = record { added = []; grown = sym (append-nil ls); fine = tt }

pub adds-push : (m : Box) (ls new : List Literal) (l : Literal) → new ≡ ls ++ l ∷ [] → IsFine m l → AddsFine m ls new
adds-push m ls new l e f = record { added = l ∷ []; grown = e; fine = (f, tt) }

fine-append : (m : Box) (xs ys : List Literal) → AllFine m xs → AllFine m ys → AllFine m (xs ++ ys)
fine-append m [] ys h g = g
fine-append m (x ∷ xs) ys h g = (h.0, fine-append m xs ys h.1 g)

pub adds-more : (m : Box) (a b c : List Literal) → AddsFine m a b → AddsFine m b c → AddsFine m a c
adds-more m a b c f g = record {
  added = f.added ++ g.added;
  grown = g.grown ∙ ap (λ (xs : List Literal). xs ++ g.added) f.grown ∙ append_assoc a f.added g.added;
  fine = fine-append m f.added g.added f.fine g.fine;
}

pub survives-append : (v : ℕ) (xs ys : List Literal) (x : ℤ) → survives v (xs ++ ys) x ≡ true → survives v xs x ≡ true
survives-append v [] ys x h = refl
survives-append v (l ∷ ls) ys x h =
    and_both (if v == l.var.0 then not (holds_at l x) else true) (survives v ls x)
    (and_first (if v == l.var.0 then not (holds_at l x) else true) (survives v (ls ++ ys) x) h)
    (survives-append v ls ys x (and_second (if v == l.var.0 then not (holds_at l x) else true) (survives v (ls ++ ys) x) h))

pub survives-last : (v : ℕ) (xs : List Literal) (l : Literal) (x : ℤ) → survives v (xs ++ l ∷ []) x ≡ true → l.var.0 ≡ v → holds_at l x ≡ false
survives-last v [] l x h e =
    not_true (holds_at l x) (ap (λ (b : Bool). if b then not (holds_at l x) else true) (sym ((Decides-eqb v l.var.0).1 (sym e)))
    ∙ and_first (if v == l.var.0 then not (holds_at l x) else true) true h)
survives-last v (k ∷ ks) l x h e = survives-last v ks l x (and_second (if v == k.var.0 then not (holds_at k x) else true) (survives v (ks ++ l ∷ []) x) h) e

-- what survives more literals survives fewer
pub survives-fewer : (m : Box) (v : ℕ) (old new : List Literal) (x : ℤ) → AddsFine m old new → survives v new x ≡ true → survives v old x ≡ true
survives-fewer m v old new x a h = survives-append v old a.added x (ap (λ (ls : List Literal). survives v ls x) (sym a.grown) ∙ h)

pub low-more : (m : Box) (v : ℕ) (old new : List Literal) → AddsFine m old new → CoversLow m old v → CoversLow m new v
low-more m v old new a c x has s = c x has (survives-fewer m v old new x a s)

pub high-more : (m : Box) (v : ℕ) (old new : List Literal) → AddsFine m old new → CoversHigh m old v → CoversHigh m new v
high-more m v old new a c x has s = c x has (survives-fewer m v old new x a s)

pub value-more : (m : Box) (v : ℕ) (old new : List Literal) (x : ℤ) → AddsFine m old new → CoversValue m old v x → CoversValue m new v x
value-more m v old new x a c s = c (survives-fewer m v old new x a s)

pub var-more : (m : Box) (v : ℕ) (deep : Bool) (old new : List Literal) → AddsFine m old new → CoversVar m old deep v → CoversVar m new deep v
var-more m v deep old new a c = record {
  low = low-more m v old new a c.low;
  high = high-more m v old new a c.high;
  inner = λ d x has. value-more m v old new x a (c.inner d x has);
}

-- ---- the literals of one variable

pub low_fine : (m : Box) (u : VarId) → IsBox m → u.0 < length m.starts → lo_of (start_at m.starts u.0) <ℤ lo_of (cell_of m u.0)
    → IsFine m (record { var = u; rel = Le; value = lo_of (cell_of m u.0) -ℤ pos 1 })
low_fine m u s lt moved =
    let k : IsCell (cell_of m u.0) = sane-cell (cell_of m u.0) (s.cells u.0 lt) in
    let t : IsCell (start_at m.starts u.0) = sane-cell (start_at m.starts u.0) (s.starts u.0 lt) in
    record {
      var = lt;
      fails = record {
        none = λ x h. (let low : lo_of (cell_of m u.0) ≤ℤ x = k.low x h in
            fails_le (record { var = u; rel = Le; value = lo_of (cell_of m u.0) -ℤ pos 1 }) x refl (omega (arith, ints)));
      };
      possible = record {
        value = lo_of (start_at m.starts u.0);
        has = t.least;
        holds = holds_le (record { var = u; rel = Le; value = lo_of (cell_of m u.0) -ℤ pos 1 }) (lo_of (start_at m.starts u.0)) refl (omega (arith, ints));
      };
      suit = suits_end (start_at m.starts u.0) Le refl;
    }

pub high_fine : (m : Box) (u : VarId) → IsBox m → u.0 < length m.starts → hi_of (cell_of m u.0) <ℤ hi_of (start_at m.starts u.0)
    → IsFine m (record { var = u; rel = Ge; value = hi_of (cell_of m u.0) +ℤ pos 1 })
high_fine m u s lt moved =
    let k : IsCell (cell_of m u.0) = sane-cell (cell_of m u.0) (s.cells u.0 lt) in
    let t : IsCell (start_at m.starts u.0) = sane-cell (start_at m.starts u.0) (s.starts u.0 lt) in
    record {
      var = lt;
      fails = record {
        none = λ x h. (let high : x ≤ℤ hi_of (cell_of m u.0) = k.high x h in
            fails_ge (record { var = u; rel = Ge; value = hi_of (cell_of m u.0) +ℤ pos 1 }) x refl (omega (arith, ints)));
      };
      possible = record {
        value = hi_of (start_at m.starts u.0);
        has = t.greatest;
        holds = holds_ge (record { var = u; rel = Ge; value = hi_of (cell_of m u.0) +ℤ pos 1 }) (hi_of (start_at m.starts u.0)) refl (omega (arith, ints));
      };
      suit = suits_end (start_at m.starts u.0) Ge refl;
    }

pub hole_fine : (m : Box) (u : VarId) (x : ℤ) → u.0 < length m.starts → IsListedAt (start_at m.starts u.0) x → has_of (cell_of m u.0) x ≡ false
    → IsFine m (record { var = u; rel = Eq; value = x })
hole_fine m u x lt at gone = record {
  var = lt;
  fails = record {
    none = λ y h. fails_eq (record { var = u; rel = Eq; value = x }) y refl
        (λ e. not_both (has_of (cell_of m u.0) y) h (ap (has_of (cell_of m u.0)) e ∙ gone));
  };
  possible = record { value = x; has = at.has; holds = holds_eq (record { var = u; rel = Eq; value = x }) x refl refl };
  suit = at.suit Eq;
}

above_if_fails : (x lo : ℤ) → (x ≤ℤ (lo -ℤ pos 1) → ⊥) → lo ≤ℤ x
above_if_fails x lo h = grind (arith, ints)

below_if_fails : (x hi : ℤ) → ((hi +ℤ pos 1) ≤ℤ x → ⊥) → x ≤ℤ hi
below_if_fails x hi h = grind (arith, ints)

pub low_told : (m : Box) (u : VarId) (ls : List Literal) → CoversLow m (ls ++ record { var = u; rel = Le; value = lo_of (cell_of m u.0) -ℤ pos 1 } ∷ []) u.0
low_told m u ls x has s =
    let fails : holds_at (record { var = u; rel = Le; value = lo_of (cell_of m u.0) -ℤ pos 1 }) x ≡ false =
    survives-last u.0 ls (record { var = u; rel = Le; value = lo_of (cell_of m u.0) -ℤ pos 1 }) x s refl in
    above_if_fails x (lo_of (cell_of m u.0)) (λ h. not_both (holds_at (record { var = u; rel = Le; value = lo_of (cell_of m u.0) -ℤ pos 1 }) x)
    (holds_le (record { var = u; rel = Le; value = lo_of (cell_of m u.0) -ℤ pos 1 }) x refl h) fails)

pub high_told : (m : Box) (u : VarId) (ls : List Literal) → CoversHigh m (ls ++ record { var = u; rel = Ge; value = hi_of (cell_of m u.0) +ℤ pos 1 } ∷ []) u.0
high_told m u ls x has s =
    let fails : holds_at (record { var = u; rel = Ge; value = hi_of (cell_of m u.0) +ℤ pos 1 }) x ≡ false =
    survives-last u.0 ls (record { var = u; rel = Ge; value = hi_of (cell_of m u.0) +ℤ pos 1 }) x s refl in
    below_if_fails x (hi_of (cell_of m u.0)) (λ h. not_both (holds_at (record { var = u; rel = Ge; value = hi_of (cell_of m u.0) +ℤ pos 1 }) x)
    (holds_ge (record { var = u; rel = Ge; value = hi_of (cell_of m u.0) +ℤ pos 1 }) x refl h) fails)

pub low_still : (m : Box) (v : ℕ) (ls : List Literal) → IsBox m → v < length m.starts → lo_of (cell_of m v) ≤ℤ lo_of (start_at m.starts v) → CoversLow m ls v
low_still m v ls s lt le x has h =
    let t : IsCell (start_at m.starts v) = sane-cell (start_at m.starts v) (s.starts v lt) in
    let low : lo_of (start_at m.starts v) ≤ℤ x = t.low x has in
    omega (arith, ints)

pub high_still : (m : Box) (v : ℕ) (ls : List Literal) → IsBox m → v < length m.starts → hi_of (start_at m.starts v) ≤ℤ hi_of (cell_of m v) → CoversHigh m ls v
high_still m v ls s lt le x has h =
    let t : IsCell (start_at m.starts v) = sane-cell (start_at m.starts v) (s.starts v lt) in
    let high : x ≤ℤ hi_of (start_at m.starts v) = t.high x has in
    omega (arith, ints)

pub hole_told : (m : Box) (u : VarId) (ls : List Literal) (x : ℤ) → CoversValue m (ls ++ record { var = u; rel = Eq; value = x } ∷ []) u.0 x
hole_told m u ls x s low high =
    absurd (not_both (holds_at (record { var = u; rel = Eq; value = x }) x) (holds_eq (record { var = u; rel = Eq; value = x }) x refl refl)
    (survives-last u.0 ls (record { var = u; rel = Eq; value = x }) x s refl))

-- ---- the starts against a reason

-- each literal may cut its variable's start
abbrev pub AllSuited : Box → List Literal → Type 0
AllSuited m [] = Unit {0}
AllSuited m (l ∷ ls) = Suits (start_at m.starts l.var.0) l.rel × AllSuited m ls

pub fine-suited : (m : Box) (ls : List Literal) → AllFine m ls → AllSuited m ls
fine-suited m [] h = tt
fine-suited m (l ∷ ls) h = (h.0.suit, fine-suited m ls h.1)

pub suited-append : (m : Box) (xs ys : List Literal) → AllSuited m xs → AllSuited m ys → AllSuited m (xs ++ ys)
suited-append m [] ys h g = g
suited-append m (x ∷ xs) ys h g = (h.0, suited-append m xs ys h.1 g)

pub negations-suit : (m : Box) (v : ℕ) (ls : List Literal) → AllSuited m ls → AllSuit v (start_at m.starts v) (map negation ls)
negations-suit m v [] h = tt
negations-suit m v (l ∷ ls) h =
    ((λ e. subst (λ (w : ℕ). Suits (start_at m.starts w) (opposite l.rel)) (sym e) (suits-negation (start_at m.starts l.var.0) l h.0)), negations-suit m v ls h.1)

survives-is : (v : ℕ) (ls : List Literal) (x : ℤ) → holds_all v (map negation ls) x ≡ survives v ls x
survives-is v [] x = refl
survives-is v (l ∷ ls) x =
    ap (λ (b : Bool). (if v == l.var.0 then b else true) && holds_all v (map negation ls) x) (negation_holds l x)
    ∙ ap (λ (b : Bool). (if v == l.var.0 then not (holds_at l x) else true) && b) (survives-is v ls x)

-- a value against the reason is one of the start that survives
pub against_has : (m : Box) (ls : List Literal) (v : ℕ) (x : ℤ) → AllSuited m ls → has_of (against m ls v) x ≡ (has_of (start_at m.starts v) x && survives v ls x)
against_has m ls v x h =
    has-cut_all v (start_at m.starts v) (map negation ls) x (negations-suit m v ls h) ∙ ap (λ (b : Bool). has_of (start_at m.starts v) x && b) (survives-is v ls x)

-- values left are values of the start
pub from_start : (m : Box) (v : ℕ) (x : ℤ) → IsBox m → v < length m.starts → has_of (cell_of m v) x ≡ true → has_of (start_at m.starts v) x ≡ true
from_start m v x s lt h =
    and_first (has_of (start_at m.starts v) x) (holds_all v m.literals x) (sym (has-cut_all v (start_at m.starts v) m.literals x (s.suit v lt)) ∙ h)

-- values left survive literals that fail there
pub fine_survives : (m : Box) (v : ℕ) (ls : List Literal) (x : ℤ) → AllFine m ls → has_of (cell_of m v) x ≡ true → survives v ls x ≡ true
fine_survives m v [] x f h = refl
fine_survives m v (l ∷ ls) x f h =
    and_both (if v == l.var.0 then not (holds_at l x) else true) (survives v ls x)
    (elim (same_or_other v l.var.0) [
      | inl same ↦ ap (λ (b : Bool). if b then not (holds_at l x) else true) ((Decides-eqb v l.var.0).1 same)
          ∙ ap not (f.0.fails.none x (ap (λ (w : ℕ). has_of (cell_of m w) x) (sym same) ∙ h))
      | inr other ↦ ap (λ (b : Bool). if b then not (holds_at l x) else true) (false_same v l.var.0 other)
    ])
    (fine_survives m v ls x f.1 h)

pub survives-push : (v : ℕ) (ls : List Literal) (l : Literal) (x : ℤ) → survives v ls x ≡ true → (l.var.0 ≡ v → holds_at l x ≡ false) → survives v (ls ++ l ∷ []) x ≡ true
survives-push v [] l x h gone =
    and_both (if v == l.var.0 then not (holds_at l x) else true) true
    (elim (same_or_other v l.var.0) [
      | inl same ↦ ap (λ (b : Bool). if b then not (holds_at l x) else true) ((Decides-eqb v l.var.0).1 same) ∙ ap not (gone (sym same))
      | inr other ↦ ap (λ (b : Bool). if b then not (holds_at l x) else true) (false_same v l.var.0 other)
    ]) refl
survives-push v (k ∷ ks) l x h gone =
    and_both (if v == k.var.0 then not (holds_at k x) else true) (survives v (ks ++ l ∷ []) x)
    (and_first (if v == k.var.0 then not (holds_at k x) else true) (survives v ks x) h)
    (survives-push v ks l x (and_second (if v == k.var.0 then not (holds_at k x) else true) (survives v ks x) h) gone)

-- a smaller cell against the reason: value by value where it is deep, else by the ends
shallow_part : (m : Box) (inside : Bool) (v : ℕ) (d : Start) → inside ≡ false → IsSane d → IsSane (cell_of m v)
    → ((x : ℤ) → has_of d x ≡ true → (lo_of (cell_of m v) ≤ℤ x) × (x ≤ℤ hi_of (cell_of m v))) → IsPart inside d (cell_of m v)
shallow_part m inside v d flat s t within =
    let k : IsCell d = sane-cell d s in
    record {
      cell = k;
      whole = sane-cell (cell_of m v) t;
      low = (within (lo_of d) k.least).0;
      high = (within (hi_of d) k.greatest).1;
      values = λ deep. absurd (not_both inside deep flat);
    }

-- ---- a refuted box

refuted_part : (m : Box) (front : List Literal) (inside : Bool) (v : ℕ) → IsBox m → v < length m.starts → AllFine m front → CoversVar m front inside v
    → IsPart inside (against m front v) (cell_of m v)
refuted_part m front inside v s lt fine covers =
    let suited : AllSuited m front = fine-suited m front fine in
    let sane : IsSane (cell_of m v) = s.cells v lt in
    let k : IsCell (cell_of m v) = sane-cell (cell_of m v) sane in
    let kept_in : has_of (against m front v) (lo_of (cell_of m v)) ≡ true =
    against_has m front v (lo_of (cell_of m v)) suited ∙ and_both (has_of (start_at m.starts v) (lo_of (cell_of m v))) (survives v front (lo_of (cell_of m v)))
    (from_start m v (lo_of (cell_of m v)) s lt k.least) (fine_survives m v front (lo_of (cell_of m v)) fine k.least) in
    let d : IsSane (against m front v) =
    sane-cut_all v (start_at m.starts v) (map negation front) (lo_of (cell_of m v)) (negations-suit m v front suited) (s.starts v lt) kept_in in
    let start_of : (x : ℤ) → has_of (against m front v) x ≡ true → has_of (start_at m.starts v) x ≡ true =
    λ x h. and_first (has_of (start_at m.starts v) x) (survives v front x) (sym (against_has m front v x suited) ∙ h) in
    let lives : (x : ℤ) → has_of (against m front v) x ≡ true → survives v front x ≡ true =
    λ x h. and_second (has_of (start_at m.starts v) x) (survives v front x) (sym (against_has m front v x suited) ∙ h) in
    elim (true_or_false inside) [
      | inl deep ↦ part inside (against m front v) (cell_of m v) d sane (λ x h. covers.inner deep x (start_of x h) (lives x h) (covers.low x (start_of x h) (lives x h)) (covers.high x (start_of x h) (lives x h)))
      | inr flat ↦ shallow_part m inside v (against m front v) flat d sane (λ x h. (covers.low x (start_of x h) (lives x h), covers.high x (start_of x h) (lives x h)))
    ]

or_none : (b : Bool) → (b || false) ≡ b
or_none true = refl
or_none false = refl

pub refuted_reason : (inside : ℕ → Bool) (vars : List VarId) (refuted : (ℕ → Start) → Bool) (m : Box) (front : List Literal) → ShrinkLaw inside vars refuted
    → IsBox m → AllBelow (length m.starts) vars → refuted (cell_of m) ≡ true → AllFine m front → Each (λ u. CoversVar m front (looks inside None u.0) u.0) vars
    → refuted (against m front) ≡ true
refuted_reason inside vars refuted m front law s below r fine covers =
    law (against m front) (cell_of m)
    (record {
      parts = each_both (λ u. u.0 < length m.starts) (λ u. CoversVar m front (looks inside None u.0) u.0) (λ u. IsPart (inside u.0) (against m front u.0) (cell_of m u.0)) vars
          (λ u lt c. refuted_part m front (inside u.0) u.0 s lt fine (subst (λ (b : Bool). CoversVar m front b u.0) (or_none (inside u.0)) c)) below covers;
    }) r

-- ---- an implied end

or_first : (a b : Bool) → (a || b) ≡ false → a ≡ false
or_first true b h = h
or_first false b h = refl

implied_part : (m : Box) (front : List Literal) (l : Literal) (inside : Bool) (v : ℕ) → IsBox m → v < length m.starts → AllFine m front
    → is_end l.rel ≡ true → IsPossible (cell_of m l.var.0) (negation l) → CoversVar m front (inside || (l.var.0 == v)) v
    → IsPart inside (against m (front ++ l ∷ []) v) (kept (cell_of m) (negation l) v)
implied_part m front l inside v s lt fine end open_still covers =
    let end' : is_end (negation l).rel ≡ true = end_negation l.rel end in
    let suited : AllSuited m (front ++ l ∷ []) = suited-append m front (l ∷ []) (fine-suited m front fine) (suits_end (start_at m.starts l.var.0) l.rel end, tt) in
    let sane : IsSane (cell_of m v) = s.cells v lt in
    let b : IsSane (kept (cell_of m) (negation l) v) = kept_sane (cell_of m) (negation l) v open_still.value end' open_still.has open_still.holds sane in
    let k : IsCell (kept (cell_of m) (negation l) v) = sane-cell (kept (cell_of m) (negation l) v) b in
    let left : has_of (cell_of m v) (lo_of (kept (cell_of m) (negation l) v)) ≡ true = kept_has (cell_of m) (negation l) v (lo_of (kept (cell_of m) (negation l) v)) end' k.least in
    let fails : (x : ℤ) → has_of (kept (cell_of m) (negation l) v) x ≡ true → l.var.0 ≡ v → holds_at l x ≡ false =
    λ x h e. not_true (holds_at l x) (sym (negation_holds l x) ∙ holds_there (cell_of m) (negation l) v x end' (sym e) h) in
    let kept_in : has_of (against m (front ++ l ∷ []) v) (lo_of (kept (cell_of m) (negation l) v)) ≡ true =
    against_has m (front ++ l ∷ []) v (lo_of (kept (cell_of m) (negation l) v)) suited
    ∙ and_both (has_of (start_at m.starts v) (lo_of (kept (cell_of m) (negation l) v))) (survives v (front ++ l ∷ []) (lo_of (kept (cell_of m) (negation l) v)))
    (from_start m v (lo_of (kept (cell_of m) (negation l) v)) s lt left)
    (survives-push v front l (lo_of (kept (cell_of m) (negation l) v)) (fine_survives m v front (lo_of (kept (cell_of m) (negation l) v)) fine left)
    (fails (lo_of (kept (cell_of m) (negation l) v)) k.least)) in
    let d : IsSane (against m (front ++ l ∷ []) v) =
    sane-cut_all v (start_at m.starts v) (map negation (front ++ l ∷ [])) (lo_of (kept (cell_of m) (negation l) v)) (negations-suit m v (front ++ l ∷ []) suited) (s.starts v lt) kept_in in
    let start_of : (x : ℤ) → has_of (against m (front ++ l ∷ []) v) x ≡ true → has_of (start_at m.starts v) x ≡ true =
    λ x h. and_first (has_of (start_at m.starts v) x) (survives v (front ++ l ∷ []) x) (sym (against_has m (front ++ l ∷ []) v x suited) ∙ h) in
    let lives : (x : ℤ) → has_of (against m (front ++ l ∷ []) v) x ≡ true → survives v (front ++ l ∷ []) x ≡ true =
    λ x h. and_second (has_of (start_at m.starts v) x) (survives v (front ++ l ∷ []) x) (sym (against_has m (front ++ l ∷ []) v x suited) ∙ h) in
    let before : (x : ℤ) → has_of (against m (front ++ l ∷ []) v) x ≡ true → survives v front x ≡ true =
    λ x h. survives-append v front (l ∷ []) x (lives x h) in
    elim (true_or_false (inside || (l.var.0 == v))) [
      | inl deep ↦ part inside (against m (front ++ l ∷ []) v) (kept (cell_of m) (negation l) v) d b
          (λ x h. in_kept (cell_of m) (negation l) v x end'
          (covers.inner deep x (start_of x h) (before x h) (covers.low x (start_of x h) (before x h)) (covers.high x (start_of x h) (before x h)))
          (λ e. negation_holds l x ∙ ap not (survives-last v front l x (lives x h) (sym e))))
      | inr flat ↦ (let apart : v ≡ l.var.0 → ⊥ = λ e. not_both (inside || (l.var.0 == v)) (or_right inside (l.var.0 == v) ((Decides-eqb l.var.0 v).1 (sym e))) flat in
          let same : kept (cell_of m) (negation l) v ≡ cell_of m v = cut_at-other v (cell_of m v) (negation l) apart in
          subst (IsPart inside (against m (front ++ l ∷ []) v)) (sym same)
          (shallow_part m inside v (against m (front ++ l ∷ []) v) (or_first inside (l.var.0 == v) flat) d sane
          (λ x h. (covers.low x (start_of x h) (before x h), covers.high x (start_of x h) (before x h)))))
    ]

pub implied_reason : (inside : ℕ → Bool) (vars : List VarId) (refuted : (ℕ → Start) → Bool) (m : Box) (front : List Literal) (l : Literal)
    → ShrinkLaw inside vars refuted → IsBox m → AllBelow (length m.starts) vars → IsImplied refuted (cell_of m) l → AllFine m front
    → Each (λ u. CoversVar m front (looks inside (Some l) u.0) u.0) vars → refuted (against m (front ++ l ∷ [])) ≡ true
implied_reason inside vars refuted m front l law s below i fine covers =
    law (against m (front ++ l ∷ [])) (kept (cell_of m) (negation l))
    (record {
      parts = each_both (λ u. u.0 < length m.starts) (λ u. CoversVar m front (looks inside (Some l) u.0) u.0)
          (λ u. IsPart (inside u.0) (against m (front ++ l ∷ []) u.0) (kept (cell_of m) (negation l) u.0)) vars
          (λ u lt c. implied_part m front l (inside u.0) u.0 s lt fine i.end_is i.open_still c) below covers;
    }) i.refutes

-- a clause that covers the kind's variables, with what is implied, is a reason
pub reason_is : (inside : ℕ → Bool) (vars : List VarId) (refuted : (ℕ → Start) → Bool) (m : Box) (implied : Option Literal) (front ls : List Literal)
    → ShrinkLaw inside vars refuted → IsBox m → AllBelow (length m.starts) vars → IsCause refuted (cell_of m) implied → IsRead (length m.starts) implied
    → AllFine m front → Each (λ u. CoversVar m front (looks inside implied u.0) u.0) vars → ls ≡ front ++ option_to_list implied → IsReason refuted m implied ls
reason_is inside vars refuted m None front ls law s below cause read fine covers e =
    record {
      against_it = ap (λ (xs : List Literal). refuted (against m xs)) (e ∙ append-nil front) ∙ refuted_reason inside vars refuted m front law s below cause fine covers;
      front = front;
      whole = e;
      fine = fine;
      last = tt;
    }
reason_is inside vars refuted m (Some l) front ls law s below cause read fine covers e =
    record {
      against_it = ap (λ (xs : List Literal). refuted (against m xs)) e ∙ implied_reason inside vars refuted m front l law s below cause fine covers;
      front = front;
      whole = e;
      fine = fine;
      last = record {
        var = read;
        possible = record { value = cause.possible.value; has = from_start m l.var.0 cause.possible.value s read cause.possible.has; holds = cause.possible.holds };
        suit = suits_end (start_at m.starts l.var.0) l.rel cause.end_is;
      };
    }

-- ---- going through a start

pub listed_at : (s : Start) (xs : List ℤ) (k : ℕ) (x : ℤ) → s ≡ Values xs → slice_get xs k ≡ Some x → IsListedAt s x
listed_at s xs k x e read =
    let lt : k < length xs = slice_get_within xs k x read in
    let value : get_or xs k (pos 0) ≡ x = get_or_from_slice_get xs k x (pos 0) read in
    subst (λ (t : Start). IsListedAt t x) (sym e) (record {
      has = ap (λ (y : ℤ). is_among y xs) (sym value) ∙ among_read xs k (pos 0) lt;
      suit = λ r. tt;
    })

pub among_place : (x : ℤ) (xs : List ℤ) → is_among x xs ≡ true → (k : ℕ) × (k < length xs) × (get_or xs k (pos 0) ≡ x)
among_place x [] h = absurd (cc)
among_place x (y ∷ ys) h =
    elim (among_cases x y ys h) [
      | inl same ↦ (0, omega arith, sym same)
      | inr later ↦ (let t = among_place x ys later in let lt : t.0 < length ys = t.1 in (suc t.0, omega arith, t.2))
    ]

pub inside_from_values : (m : Box) (v : ℕ) (ls : List Literal) (xs : List ℤ) (n : ℕ) → start_at m.starts v ≡ Values xs → length xs ≤ n
    → ((k : ℕ) → k < n → CoversValue m ls v (get_or xs k (pos 0))) → CoversInside m ls v
inside_from_values m v ls xs n e le covers x has =
    let t = among_place x xs (ap (λ (s : Start). has_of s x) (sym e) ∙ has) in
    let lt : t.0 < length xs = t.1 in
    subst (CoversValue m ls v) t.2 (covers t.0 (omega arith))

pub values-step : (m : Box) (v : ℕ) (old new : List Literal) (xs : List ℤ) (at : ℕ) (x : ℤ) → AddsFine m old new → slice_get xs at ≡ Some x
    → ((k : ℕ) → k < at → CoversValue m old v (get_or xs k (pos 0))) → CoversValue m new v x → (k : ℕ) → k < at + 1 → CoversValue m new v (get_or xs k (pos 0))
values-step m v old new xs at x a read before here =
    below_more (λ k. CoversValue m new v (get_or xs k (pos 0))) at (λ k lt. value-more m v old new (get_or xs k (pos 0)) a (before k lt))
    (subst (CoversValue m new v) (sym (get_or_from_slice_get xs at x (pos 0) read)) here)

span_stays : (v : ℕ) (a b : ℤ) (ls : List Literal) → (lo : ℤ) × (hi : ℤ) × (cut_all v (Span a b) ls ≡ Span lo hi)
span_stays v a b [] = (a, b, refl)
span_stays v a b (l ∷ ls) =
    elim (same_or_other v l.var.0) [
      | inl same ↦ (let t = span_stays v (cut_lo l.rel l.value a) (cut_hi l.rel l.value b) ls in
          (t.0, t.1, ap (λ (s : Start). cut_all v s ls) (cut_at-same v (Span a b) l same) ∙ t.2))
      | inr other ↦ (let t = span_stays v a b ls in (t.0, t.1, ap (λ (s : Start). cut_all v s ls) (cut_at-other v (Span a b) l other) ∙ t.2))
    ]

between_has : (s : Start) (lo hi x : ℤ) → s ≡ Span lo hi → lo_of s ≤ℤ x → x ≤ℤ hi_of s → has_of s x ≡ true
between_has s lo hi x e low high =
    let a : lo ≤ℤ x = subst (λ (t : Start). lo_of t ≤ℤ x) e low in
    let b : x ≤ℤ hi = subst (λ (t : Start). x ≤ℤ hi_of t) e high in
    ap (λ (t : Start). has_of t x) e ∙ and_both (int_le lo x) (int_le x hi) (true_le lo x a) (true_le x hi b)

-- a span has no holes
pub span_inside : (m : Box) (v : ℕ) (ls : List Literal) (a b : ℤ) → start_at m.starts v ≡ Span a b → CoversInside m ls v
span_inside m v ls a b e x has s low high =
    let t = span_stays v a b m.literals in
    between_has (cell_of m v) t.0 t.1 x (ap (λ (c : Start). cut_all v c m.literals) e ∙ t.2) low high

-- ---- the kind's variables one by one

pub vars-more : (m : Box) (inside : ℕ → Bool) (implied : Option Literal) (vars : List VarId) (i : ℕ) (u : VarId) (deep : Bool) (old new : List Literal)
    → AddsFine m old new → deep ≡ looks inside implied u.0 → slice_get vars i ≡ Some u
    → Each (λ w. CoversVar m old (looks inside implied w.0) w.0) (take i vars) → CoversVar m new deep u.0
    → Each (λ w. CoversVar m new (looks inside implied w.0) w.0) (take (i + 1) vars)
vars-more m inside implied vars i u deep old new a d read before here =
    each_more (λ w. CoversVar m new (looks inside implied w.0) w.0) vars i u
    (each_map (λ w. CoversVar m old (looks inside implied w.0) w.0) (λ w. CoversVar m new (looks inside implied w.0) w.0) (take i vars)
    (λ w c. var-more m w.0 (looks inside implied w.0) old new a c) before)
    read (subst (λ (b : Bool). CoversVar m new b u.0) d here)

pub fine-from : (m : Box) (old new : List Literal) → old ≡ [] → AddsFine m old new → AllFine m new
fine-from m old new e a = subst (AllFine m) (sym (a.grown ∙ ap (λ (xs : List Literal). xs ++ a.added) e)) a.fine

-- ---- what is implied can be explained

pub end_cause : (refuted : (ℕ → Start) → Bool) (b : ℕ → Start) (u : VarId) (r : Rel) (v : ℤ) → IsSane (b u.0) → IsEndOf refuted b u r v
    → IsImplied refuted b (record { var = u; rel = r; value = v })
end_cause refuted b u Ge v s e =
    let k : IsCell (b u.0) = sane-cell (b u.0) s in
    let low : lo_of (b u.0) <ℤ v = e.0.low in
    record {
      end_is = refl;
      possible = record { value = hi_of (b u.0); has = k.greatest; holds = holds_ge (record { var = u; rel = Ge; value = v }) (hi_of (b u.0)) refl e.0.high };
      open_still = record {
        value = lo_of (b u.0);
        has = k.least;
        holds = holds_le (record { var = u; rel = Le; value = v -ℤ pos 1 }) (lo_of (b u.0)) refl (omega (arith, ints));
      };
      refutes = e.0.refutes;
    }
end_cause refuted b u Le v s e =
    let k : IsCell (b u.0) = sane-cell (b u.0) s in
    let high : v <ℤ hi_of (b u.0) = e.0.high in
    record {
      end_is = refl;
      possible = record { value = lo_of (b u.0); has = k.least; holds = holds_le (record { var = u; rel = Le; value = v }) (lo_of (b u.0)) refl e.0.low };
      open_still = record {
        value = hi_of (b u.0);
        has = k.greatest;
        holds = holds_ge (record { var = u; rel = Ge; value = v +ℤ pos 1 }) (hi_of (b u.0)) refl (omega (arith, ints));
      };
      refutes = e.0.refutes;
    }
end_cause refuted b u Eq v s e = absurd e
end_cause refuted b u Ne v s e = absurd e

-- what the first implied end gives is a cause of a reason
pub next_cause : (refuted : (ℕ → Start) → Bool) (vars : List VarId) (m : Box) (l : Literal) → IsBox m → AllBelow (length m.starts) vars
    → IsNext refuted vars (cell_of m) (Some l) → (l.var.0 < length m.starts) × IsImplied refuted (cell_of m) l
next_cause refuted vars m l s below n =
    let lt : l.var.0 < length m.starts = each_at (λ u. u.0 < length m.starts) vars n.0 l.var below n.2 in
    (lt, end_cause refuted (cell_of m) l.var l.rel l.value (s.cells l.var.0 lt) n.4)
