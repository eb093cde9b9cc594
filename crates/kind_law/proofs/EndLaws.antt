-- What is told of one end of each cell.
use Rattle.std.proofs.Common.{◌≡◌, ℕ, ◌+◌, ◌<◌, ◌≤◌, ◌==◌, Bool, true, false, not, ◌&&◌, List, [], ◌∷◌, length, get_or, ℤ, pos, ◌+ℤ◌, ◌-ℤ◌, ◌<ℤ◌, ◌≤ℤ◌, ◌⊎◌, if◌then◌else◌, refl, sym, ◌∙◌, ap, subst, arith, inl, inr, Option, Some, None, slice_get}
use Rattle.std.proofs.lemmas.Int.{ints}
use Rattle.std.specs.Option.{option_to_list}
use Rattle.dom_core.specs.Rises.{IsRank}
use Rattle.dom_core.specs.Literal.{holds_at, negation, opposite, opposite_value}
use Rattle.dom_core.specs.declared.literal.Literal.{Literal}
use Rattle.dom_core.specs.declared.literal.Rel.{Rel}
use Rattle.dom_core.specs.declared.literal.Rel.TheVariants.{Le, Ge}
use Rattle.dom_core.specs.declared.var_id.VarId.{VarId}
use Rattle.dom_core.proofs.LiteralLaws.{le_holds, holds_le, ge_holds, holds_ge, negation_holds, end_negation}
use Rattle.dom_core.proofs.TestLaws.{not_both}
use Rattle.dom_cells.specs.Box.{Box, start_at, cell_of, IsBox}
use Rattle.dom_cells.specs.Cell.{has_of, lo_of, hi_of, IsSane, IsCell}
use Rattle.dom_cells.specs.Flagged.{IsCeiling, IsFloor}
use Rattle.dom_cells.specs.declared.start.Start.{Start}
use Rattle.dom_cells.specs.declared.start.Start.TheVariants.{Values}
use Rattle.dom_cells.proofs.BoxLaws.{sane-cell, cut_at-other}
use Rattle.dom_cells.specs.Box.{against}
use Rattle.dom_core.proofs.TestLaws.{and_first, and_second, and_both, not_true}
use Rattle.dom_cells.proofs.BoxLaws.{sane-cut_all}
use Rattle.dom_cells.proofs.KeptLaws.{suits_end}
use Rattle.std.proofs.Common.{map, ◌++◌}
use Rattle.kind_law.specs.Reason.{IsCause, IsRead, IsReason, AllFine, survives, IsOpenEnd, IsOpen, asked, IsLeft, IsReach, AddsFine, CoversEnd, CoversLow, CoversHigh, CoversValue, CoversInside, CoversBetween, CoversRanks, IsLowBound, IsHighBound}
use Rattle.kind_law.specs.declared.side.Side.TheVariants.{Low, High}
use Rattle.dom_core.specs.Ends.{Ends}
use Rattle.kind_law.specs.Laws.{AllBelow, AllSane, FitsLaw, hulls}
use Rattle.kind_law.specs.Next.{IsBound}
use Rattle.kind_law.proofs.EachLaws.{each_map}
use Rattle.kind_law.proofs.BoundLaws.{box-sane, kept-fits, kept_sane, in_kept, kept_has, holds_there}
use Rattle.kind_law.proofs.ReasonLaws.{AllSuited, fine-suited, suited-append, negations-suit, against_has, fine_survives, survives-append, survives-push, survives-last, survives-fewer, among_place, from_start, value-more}
use Rattle.std.proofs.Common.{below_more}
use Rattle.std.proofs.lemmas.Option.{get_or_from_slice_get}

-- ---- the bounds that the failing of an implied end puts on a cell

-- beside its own variable the box stays
pub other_cell : (m : Box) (l : Literal) (v : ℕ) → (v ≡ l.var.0 → ⊥) → asked m (Some l) v ≡ cell_of m v
other_cell m l v apart = cut_at-other v (cell_of m v) (negation l) apart

pub low_other : (m : Box) (l : Literal) (v : ℕ) → (v ≡ l.var.0 → ⊥) → lo_of (asked m (Some l) v) ≤ℤ lo_of (cell_of m v)
low_other m l v apart = let e : lo_of (asked m (Some l) v) ≡ lo_of (cell_of m v) = ap lo_of (other_cell m l v apart) in omega (arith, ints)

pub high_other : (m : Box) (l : Literal) (v : ℕ) → (v ≡ l.var.0 → ⊥) → hi_of (cell_of m v) ≤ℤ hi_of (asked m (Some l) v)
high_other m l v apart = let e : hi_of (asked m (Some l) v) ≡ hi_of (cell_of m v) = ap hi_of (other_cell m l v apart) in omega (arith, ints)

asked_sane : (m : Box) (l : Literal) (v : ℕ) → IsSane (cell_of m v) → IsOpenEnd (cell_of m) l → IsSane (asked m (Some l) v)
asked_sane m l v s o = kept_sane (cell_of m) (negation l) v o.open_still.value (end_negation l.rel o.end_is) o.open_still.has o.open_still.holds s

-- a value of the cell at which the literal fails stays
stays : (m : Box) (l : Literal) (v : ℕ) (x : ℤ) → IsOpenEnd (cell_of m) l → has_of (cell_of m v) x ≡ true → holds_at (negation l) x ≡ true
    → has_of (asked m (Some l) v) x ≡ true
stays m l v x o h g = in_kept (cell_of m) (negation l) v x (end_negation l.rel o.end_is) h (λ e. g)

at_own : (m : Box) (l : Literal) (v : ℕ) (x : ℤ) → v ≡ l.var.0 → has_of (cell_of m l.var.0) x ≡ true → has_of (cell_of m v) x ≡ true
at_own m l v x e h = ap (λ (w : ℕ). has_of (cell_of m w) x) e ∙ h

fails_there : (m : Box) (l : Literal) (ls : List Literal) (v : ℕ) (x : ℤ) → v ≡ l.var.0 → IsLeft m (Some l) ls v x → holds_at l x ≡ false
fails_there m l ls v x e left = survives-last v [] l x left.fails (sym e)

above_unless : (x v : ℤ) → (x ≤ℤ v → ⊥) → (v +ℤ pos 1) ≤ℤ x
above_unless x v h = grind (arith, ints)

below_unless : (x v : ℤ) → (v ≤ℤ x → ⊥) → x ≤ℤ (v -ℤ pos 1)
below_unless x v h = grind (arith, ints)

pub low_bound_is : (m : Box) (l : Literal) (v : ℕ) → v ≡ l.var.0 → l.rel ≡ Le → IsSane (cell_of m v) → IsOpenEnd (cell_of m) l
    → IsLowBound m (Some l) v (l.value +ℤ pos 1)
low_bound_is m l v e r s o =
    let k : IsCell (cell_of m v) = sane-cell (cell_of m v) s in
    let a : IsCell (asked m (Some l) v) = sane-cell (asked m (Some l) v) (asked_sane m l v s o) in
    let rel : (negation l).rel ≡ Ge = ap opposite r in
    let value : (negation l).value ≡ (l.value +ℤ pos 1) = ap (λ (q : Rel). opposite_value q l.value) r in
    let low : lo_of (cell_of m v) ≤ℤ o.possible.value = k.low o.possible.value (at_own m l v o.possible.value e o.possible.has) in
    let least : o.possible.value ≤ℤ l.value = le_holds l o.possible.value r o.possible.holds in
    let high : o.open_still.value ≤ℤ hi_of (cell_of m v) = k.high o.open_still.value (at_own m l v o.open_still.value e o.open_still.has) in
    let most : (negation l).value ≤ℤ o.open_still.value = ge_holds (negation l) o.open_still.value rel o.open_still.holds in
    record {
      low = omega (arith, ints);
      high = omega (arith, ints);
      left = λ ls x t. above_unless x l.value (λ le. not_both (holds_at l x) (holds_le l x r le) (fails_there m l ls v x e t));
      reached = λ x h le. a.low x (stays m l v x o h (holds_ge (negation l) x rel (omega (arith, ints))));
    }

pub high_bound_is : (m : Box) (l : Literal) (v : ℕ) → v ≡ l.var.0 → l.rel ≡ Ge → IsSane (cell_of m v) → IsOpenEnd (cell_of m) l
    → IsHighBound m (Some l) v (l.value -ℤ pos 1)
high_bound_is m l v e r s o =
    let k : IsCell (cell_of m v) = sane-cell (cell_of m v) s in
    let a : IsCell (asked m (Some l) v) = sane-cell (asked m (Some l) v) (asked_sane m l v s o) in
    let rel : (negation l).rel ≡ Le = ap opposite r in
    let value : (negation l).value ≡ (l.value -ℤ pos 1) = ap (λ (q : Rel). opposite_value q l.value) r in
    let high : o.possible.value ≤ℤ hi_of (cell_of m v) = k.high o.possible.value (at_own m l v o.possible.value e o.possible.has) in
    let most : l.value ≤ℤ o.possible.value = ge_holds l o.possible.value r o.possible.holds in
    let low : lo_of (cell_of m v) ≤ℤ o.open_still.value = k.low o.open_still.value (at_own m l v o.open_still.value e o.open_still.has) in
    let least : o.open_still.value ≤ℤ (negation l).value = le_holds (negation l) o.open_still.value rel o.open_still.holds in
    record {
      low = omega (arith, ints);
      high = omega (arith, ints);
      left = λ ls x t. below_unless x l.value (λ le. not_both (holds_at l x) (holds_ge l x r le) (fails_there m l ls v x e t));
      reached = λ x h le. a.high x (stays m l v x o h (holds_le (negation l) x rel (omega (arith, ints))));
    }

-- an implied upper end leaves the cell's upper end, an implied lower end its lower one
pub high_stays : (m : Box) (l : Literal) (v : ℕ) → v ≡ l.var.0 → l.rel ≡ Le → IsSane (cell_of m v) → IsOpenEnd (cell_of m) l
    → hi_of (cell_of m v) ≤ℤ hi_of (asked m (Some l) v)
high_stays m l v e r s o =
    let b : IsLowBound m (Some l) v (l.value +ℤ pos 1) = low_bound_is m l v e r s o in
    let k : IsCell (cell_of m v) = sane-cell (cell_of m v) s in
    let a : IsCell (asked m (Some l) v) = sane-cell (asked m (Some l) v) (asked_sane m l v s o) in
    let rel : (negation l).rel ≡ Ge = ap opposite r in
    let value : (negation l).value ≡ (l.value +ℤ pos 1) = ap (λ (q : Rel). opposite_value q l.value) r in
    let within : (l.value +ℤ pos 1) ≤ℤ hi_of (cell_of m v) = b.high in
    a.high (hi_of (cell_of m v)) (stays m l v (hi_of (cell_of m v)) o k.greatest (holds_ge (negation l) (hi_of (cell_of m v)) rel (omega (arith, ints))))

pub low_stays : (m : Box) (l : Literal) (v : ℕ) → v ≡ l.var.0 → l.rel ≡ Ge → IsSane (cell_of m v) → IsOpenEnd (cell_of m) l
    → lo_of (asked m (Some l) v) ≤ℤ lo_of (cell_of m v)
low_stays m l v e r s o =
    let b : IsHighBound m (Some l) v (l.value -ℤ pos 1) = high_bound_is m l v e r s o in
    let k : IsCell (cell_of m v) = sane-cell (cell_of m v) s in
    let a : IsCell (asked m (Some l) v) = sane-cell (asked m (Some l) v) (asked_sane m l v s o) in
    let rel : (negation l).rel ≡ Le = ap opposite r in
    let value : (negation l).value ≡ (l.value -ℤ pos 1) = ap (λ (q : Rel). opposite_value q l.value) r in
    let within : lo_of (cell_of m v) ≤ℤ (l.value -ℤ pos 1) = b.low in
    a.low (lo_of (cell_of m v)) (stays m l v (lo_of (cell_of m v)) o k.least (holds_le (negation l) (lo_of (cell_of m v)) rel (omega (arith, ints))))

-- ---- how far values can lie beyond an end

pub start_low : (m : Box) (v : ℕ) → IsBox m → v < length m.starts → lo_of (start_at m.starts v) ≤ℤ lo_of (cell_of m v)
start_low m v s lt =
    let k : IsCell (cell_of m v) = sane-cell (cell_of m v) (s.cells v lt) in
    let t : IsCell (start_at m.starts v) = sane-cell (start_at m.starts v) (s.starts v lt) in
    t.low (lo_of (cell_of m v)) (from_start m v (lo_of (cell_of m v)) s lt k.least)

pub start_high : (m : Box) (v : ℕ) → IsBox m → v < length m.starts → hi_of (cell_of m v) ≤ℤ hi_of (start_at m.starts v)
start_high m v s lt =
    let k : IsCell (cell_of m v) = sane-cell (cell_of m v) (s.cells v lt) in
    let t : IsCell (start_at m.starts v) = sane-cell (start_at m.starts v) (s.starts v lt) in
    t.high (hi_of (cell_of m v)) (from_start m v (hi_of (cell_of m v)) s lt k.greatest)

pub low_reach_whole : (m : Box) (implied : Option Literal) (v : ℕ) (gap : ℤ) → IsBox m → v < length m.starts
    → lo_of (asked m implied v) ≤ℤ lo_of (cell_of m v) → (lo_of (start_at m.starts v) +ℤ gap) ≡ lo_of (cell_of m v) → IsReach Low m implied v gap
low_reach_whole m implied v gap s lt stays e ls x left =
    let t : IsCell (start_at m.starts v) = sane-cell (start_at m.starts v) (s.starts v lt) in
    let low : lo_of (start_at m.starts v) ≤ℤ x = t.low x left.first in
    omega (arith, ints)

pub high_reach_whole : (m : Box) (implied : Option Literal) (v : ℕ) (gap : ℤ) → IsBox m → v < length m.starts
    → hi_of (cell_of m v) ≤ℤ hi_of (asked m implied v) → (hi_of (cell_of m v) +ℤ gap) ≡ hi_of (start_at m.starts v) → IsReach High m implied v gap
high_reach_whole m implied v gap s lt stays e ls x left =
    let t : IsCell (start_at m.starts v) = sane-cell (start_at m.starts v) (s.starts v lt) in
    let high : x ≤ℤ hi_of (start_at m.starts v) = t.high x left.first in
    omega (arith, ints)

pub low_reach_bound : (m : Box) (implied : Option Literal) (v : ℕ) (bound end gap : ℤ) → IsLowBound m implied v bound → IsCeiling (has_of (cell_of m v)) bound end
    → (bound +ℤ gap) ≡ end → IsReach Low m implied v gap
low_reach_bound m implied v bound end gap b c e ls x left =
    let low : bound ≤ℤ x = b.left ls x left in
    let at_most : lo_of (asked m implied v) ≤ℤ end = b.reached end c.has c.at_least in
    omega (arith, ints)

pub high_reach_bound : (m : Box) (implied : Option Literal) (v : ℕ) (bound end gap : ℤ) → IsHighBound m implied v bound → IsFloor (has_of (cell_of m v)) bound end
    → (end +ℤ gap) ≡ bound → IsReach High m implied v gap
high_reach_bound m implied v bound end gap b c e ls x left =
    let high : x ≤ℤ bound = b.left ls x left in
    let at_least : end ≤ℤ hi_of (asked m implied v) = b.reached end c.has c.at_most in
    omega (arith, ints)

-- ---- what is told of an end

pub low_end_told : (m : Box) (implied : Option Literal) (ls : List Literal) (v : ℕ) → lo_of (asked m implied v) ≤ℤ lo_of (cell_of m v) → CoversLow m ls v
    → CoversEnd Low m implied ls v
low_end_told m implied ls v stays c x left =
    let low : lo_of (cell_of m v) ≤ℤ x = c x left.first left.lives in
    omega (arith, ints)

pub high_end_told : (m : Box) (implied : Option Literal) (ls : List Literal) (v : ℕ) → hi_of (cell_of m v) ≤ℤ hi_of (asked m implied v) → CoversHigh m ls v
    → CoversEnd High m implied ls v
high_end_told m implied ls v stays c x left =
    let high : x ≤ℤ hi_of (cell_of m v) = c x left.first left.lives in
    omega (arith, ints)

less_or_not : (x y : ℤ) → (x <ℤ y) ⊎ (y ≤ℤ x)
less_or_not x y = grind (arith, ints)

too_low : (x end : ℤ) → x <ℤ end → end ≤ℤ x → ⊥
too_low x end h g = omega (arith, ints)

pub low_gap_told : (m : Box) (implied : Option Literal) (ls : List Literal) (v : ℕ) (bound end : ℤ) → IsSane (cell_of m v) → IsLowBound m implied v bound
    → IsCeiling (has_of (cell_of m v)) bound end → CoversBetween m ls v bound end → CoversEnd Low m implied ls v
low_gap_told m implied ls v bound end s b c told x left =
    let k : IsCell (cell_of m v) = sane-cell (cell_of m v) s in
    let low : bound ≤ℤ x = b.left ls x left in
    let first : lo_of (cell_of m v) <ℤ bound = b.low in
    let last : end ≤ℤ hi_of (cell_of m v) = k.high end c.has in
    let at_most : lo_of (asked m implied v) ≤ℤ end = b.reached end c.has c.at_least in
    elim (less_or_not x end) [
      | inl less ↦ absurd (too_low x end less (c.least x (told x left.first low less left.lives (omega (arith, ints)) (omega (arith, ints))) low))
      | inr more ↦ omega (arith, ints)
    ]

pub high_gap_told : (m : Box) (implied : Option Literal) (ls : List Literal) (v : ℕ) (bound end : ℤ) → IsSane (cell_of m v) → IsHighBound m implied v bound
    → IsFloor (has_of (cell_of m v)) bound end → CoversBetween m ls v (end +ℤ pos 1) (bound +ℤ pos 1) → CoversEnd High m implied ls v
high_gap_told m implied ls v bound end s b c told x left =
    let k : IsCell (cell_of m v) = sane-cell (cell_of m v) s in
    let high : x ≤ℤ bound = b.left ls x left in
    let last : bound <ℤ hi_of (cell_of m v) = b.high in
    let first : lo_of (cell_of m v) ≤ℤ end = k.low end c.has in
    let at_least : end ≤ℤ hi_of (asked m implied v) = b.reached end c.has c.at_most in
    elim (less_or_not end x) [
      | inl less ↦ absurd (too_low end x less (c.greatest x (told x left.first (omega (arith, ints)) (omega (arith, ints)) left.lives (omega (arith, ints)) (omega (arith, ints))) high))
      | inr more ↦ omega (arith, ints)
    ]

-- ---- values of a domain between two numbers

pub between_from_inside : (m : Box) (ls : List Literal) (v : ℕ) (begin end : ℤ) → CoversInside m ls v → CoversBetween m ls v begin end
between_from_inside m ls v begin end c x has low high = c x has

below_or_not : (k n : ℕ) → (k < n) ⊎ (n ≤ k)
below_or_not k n = grind arith

place_from : (xs : List ℤ) (begin x : ℤ) (first k : ℕ) → IsRank xs begin first → get_or xs k (pos 0) ≡ x → begin ≤ℤ x → first ≤ k
place_from xs begin x first k r is low =
    elim (below_or_not k first) [
      | inl less ↦ (let early : get_or xs k (pos 0) <ℤ begin = r.below k less in absurd (omega (arith, ints)))
      | inr more ↦ more
    ]

place_below : (xs : List ℤ) (end x : ℤ) (last k : ℕ) → IsRank xs end last → k < length xs → get_or xs k (pos 0) ≡ x → x <ℤ end → k < last
place_below xs end x last k r lt is high =
    elim (below_or_not k last) [
      | inl less ↦ less
      | inr more ↦ (let late : end ≤ℤ get_or xs k (pos 0) = r.from k more lt in absurd (omega (arith, ints)))
    ]

pub between_from_ranks : (m : Box) (ls : List Literal) (v : ℕ) (xs : List ℤ) (begin end : ℤ) (first last : ℕ) → start_at m.starts v ≡ Values xs
    → IsRank xs begin first → IsRank xs end last → CoversRanks m ls v xs first last → CoversBetween m ls v begin end
between_from_ranks m ls v xs begin end first last e f l told x has low high =
    let t = among_place x xs (ap (λ (s : Start). has_of s x) (sym e) ∙ has) in
    let lt : t.0 < length xs = t.1 in
    let is : get_or xs t.0 (pos 0) ≡ x = t.2 in
    let at_least : first ≤ t.0 = place_from xs begin x first t.0 f is low in
    let less : t.0 < last = place_below xs end x last t.0 l lt is high in
    subst (CoversValue m ls v) is (told t.0 at_least less)

pub ranks_more : (m : Box) (v : ℕ) (old new : List Literal) (xs : List ℤ) (first at : ℕ) (x : ℤ) → AddsFine m old new → slice_get xs at ≡ Some x
    → CoversRanks m old v xs first at → CoversValue m new v x → CoversRanks m new v xs first (at + 1)
ranks_more m v old new xs first at x a read before here k from less =
    below_more (λ k. (first ≤ k → CoversValue m new v (get_or xs k (pos 0)))) at (λ k lt ge. value-more m v old new (get_or xs k (pos 0)) a (before k ge lt))
    (λ ge. subst (CoversValue m new v) (sym (get_or_from_slice_get xs at x (pos 0) read)) here) k less from

-- ---- the box against a clause

-- what is explained leaves its end open
pub cause_open : (refuted : (ℕ → Start) → Bool) (b : ℕ → Start) (implied : Option Literal) → IsCause refuted b implied → IsOpen b implied
cause_open refuted b None c = tt
cause_open refuted b (Some l) c = record { end_is = c.end_is; possible = c.possible; open_still = c.open_still }

survives-both : (v : ℕ) (xs ys : List Literal) (x : ℤ) → survives v xs x ≡ true → survives v ys x ≡ true → survives v (xs ++ ys) x ≡ true
survives-both v [] ys x h g = g
survives-both v (l ∷ ls) ys x h g =
    and_both (if v == l.var.0 then not (holds_at l x) else true) (survives v (ls ++ ys) x)
    (and_first (if v == l.var.0 then not (holds_at l x) else true) (survives v ls x) h)
    (survives-both v ls ys x (and_second (if v == l.var.0 then not (holds_at l x) else true) (survives v ls x) h) g)

survives-second : (v : ℕ) (xs ys : List Literal) (x : ℤ) → survives v (xs ++ ys) x ≡ true → survives v ys x ≡ true
survives-second v [] ys x h = h
survives-second v (l ∷ ls) ys x h = survives-second v ls ys x (and_second (if v == l.var.0 then not (holds_at l x) else true) (survives v (ls ++ ys) x) h)

-- a value of the refuted box fails the implied end
asked_fails : (m : Box) (implied : Option Literal) (v : ℕ) (x : ℤ) → IsOpen (cell_of m) implied → has_of (asked m implied v) x ≡ true
    → survives v (option_to_list implied) x ≡ true
asked_fails m None v x o h = refl
asked_fails m (Some l) v x o h =
    survives-push v [] l x refl (λ e. not_true (holds_at l x) (sym (negation_holds l x) ∙ holds_there (cell_of m) (negation l) v x (end_negation l.rel o.end_is) (sym e) h))

asked_in : (m : Box) (implied : Option Literal) (v : ℕ) (x : ℤ) → IsOpen (cell_of m) implied → has_of (asked m implied v) x ≡ true → has_of (cell_of m v) x ≡ true
asked_in m None v x o h = h
asked_in m (Some l) v x o h = kept_has (cell_of m) (negation l) v x (end_negation l.rel o.end_is) h

pub sane_asked : (m : Box) (implied : Option Literal) (v : ℕ) → IsSane (cell_of m v) → IsOpen (cell_of m) implied → IsSane (asked m implied v)
sane_asked m None v s o = s
sane_asked m (Some l) v s o = asked_sane m l v s o

implied_suited : (m : Box) (implied : Option Literal) → IsOpen (cell_of m) implied → AllSuited m (option_to_list implied)
implied_suited m None o = tt
implied_suited m (Some l) o = (suits_end (start_at m.starts l.var.0) l.rel o.end_is, tt)

-- the box against fine literals and what is implied has values, and they are left
pub record IsAgainst (m : Box) (implied : Option Literal) (front : List Literal) (c : Start) (v : ℕ) : Type 0 where
  pub sane : IsSane c
  pub left : (x : ℤ) → has_of c x ≡ true → IsLeft m implied front v x

against_front : (m : Box) (implied : Option Literal) (front : List Literal) (v : ℕ) → IsBox m → v < length m.starts → AllFine m front
    → IsOpen (cell_of m) implied → IsAgainst m implied front (against m (front ++ option_to_list implied) v) v
against_front m implied front v s lt fine o =
    let suited : AllSuited m (front ++ option_to_list implied) = suited-append m front (option_to_list implied) (fine-suited m front fine) (implied_suited m implied o) in
    let k : IsCell (asked m implied v) = sane-cell (asked m implied v) (sane_asked m implied v (s.cells v lt) o) in
    let cell : has_of (cell_of m v) (lo_of (asked m implied v)) ≡ true = asked_in m implied v (lo_of (asked m implied v)) o k.least in
    let lives : survives v (front ++ option_to_list implied) (lo_of (asked m implied v)) ≡ true =
    survives-both v front (option_to_list implied) (lo_of (asked m implied v)) (fine_survives m v front (lo_of (asked m implied v)) fine cell)
    (asked_fails m implied v (lo_of (asked m implied v)) o k.least) in
    let has : has_of (against m (front ++ option_to_list implied) v) (lo_of (asked m implied v)) ≡ true =
    against_has m (front ++ option_to_list implied) v (lo_of (asked m implied v)) suited
    ∙ and_both (has_of (start_at m.starts v) (lo_of (asked m implied v))) (survives v (front ++ option_to_list implied) (lo_of (asked m implied v)))
    (from_start m v (lo_of (asked m implied v)) s lt cell) lives in
    record {
      sane = sane-cut_all v (start_at m.starts v) (map negation (front ++ option_to_list implied)) (lo_of (asked m implied v))
          (negations-suit m v (front ++ option_to_list implied) suited) (s.starts v lt) has;
      left = λ x h. (let both : (has_of (start_at m.starts v) x && survives v (front ++ option_to_list implied) x) ≡ true =
          sym (against_has m (front ++ option_to_list implied) v x suited) ∙ h in
          let all : survives v (front ++ option_to_list implied) x ≡ true = and_second (has_of (start_at m.starts v) x) (survives v (front ++ option_to_list implied) x) both in
          record {
            first = and_first (has_of (start_at m.starts v) x) (survives v (front ++ option_to_list implied) x) both;
            lives = survives-append v front (option_to_list implied) x all;
            fails = survives-second v front (option_to_list implied) x all;
          });
    }

pub against_is : (m : Box) (implied : Option Literal) (front ls : List Literal) (v : ℕ) → IsBox m → v < length m.starts → AllFine m front
    → IsOpen (cell_of m) implied → ls ≡ front ++ option_to_list implied → IsAgainst m implied front (against m ls v) v
against_is m implied front ls v s lt fine o e =
    subst (λ (xs : List Literal). IsAgainst m implied front (against m xs v) v) (sym e) (against_front m implied front v s lt fine o)

-- a clause of fine literals and what is implied, against which the starts are refuted, is a reason
pub end_reason : (refuted : (ℕ → Start) → Bool) (m : Box) (implied : Option Literal) (front ls : List Literal) → IsBox m → IsCause refuted (cell_of m) implied
    → IsRead (length m.starts) implied → AllFine m front → ls ≡ front ++ option_to_list implied → refuted (against m ls) ≡ true → IsReason refuted m implied ls
end_reason refuted m None front ls s cause read fine e r = record { against_it = r; front = front; whole = e; fine = fine; last = tt }
end_reason refuted m (Some l) front ls s cause read fine e r = record {
  against_it = r;
  front = front;
  whole = e;
  fine = fine;
  last = record {
    var = read;
    possible = record { value = cause.possible.value; has = from_start m l.var.0 cause.possible.value s read cause.possible.has; holds = cause.possible.holds };
    suit = suits_end (start_at m.starts l.var.0) l.rel cause.end_is;
  };
}

-- a value that is left against more literals is left against fewer
pub left_fewer : (m : Box) (implied : Option Literal) (v : ℕ) (old new : List Literal) (x : ℤ) → AddsFine m old new → IsLeft m implied new v x → IsLeft m implied old v x
left_fewer m implied v old new x a left = record { first = left.first; lives = survives-fewer m v old new x a left.lives; fails = left.fails }

-- the box that is refuted is so
pub cause_refutes : (refuted : (ℕ → Start) → Bool) (m : Box) (implied : Option Literal) → IsCause refuted (cell_of m) implied → refuted (asked m implied) ≡ true
cause_refutes refuted m None c = c
cause_refutes refuted m (Some l) c = c.refutes

asked_bound : (b : ℕ → Start) (vars : List VarId) (n : ℕ) (l : Literal) → AllBelow n vars → IsOpenEnd b l → IsBound vars n b (negation l)
asked_bound b vars n l below o = record {
  below = below;
  end_is = end_negation l.rel o.end_is;
  value = o.open_still.value;
  has = o.open_still.has;
  holds = o.open_still.holds;
}

-- what fits the cells fits the box that is refuted
pub asked_fits : (m : Box) (implied : Option Literal) (vars : List VarId) (fits : (ℕ → Ends) → Type 0) → FitsLaw vars fits → AllBelow (length m.starts) vars
    → IsBox m → IsOpen (cell_of m) implied → fits (hulls (cell_of m)) → fits (hulls (asked m implied))
asked_fits m None vars fits law below s o f = f
asked_fits m (Some l) vars fits law below s o f =
    kept-fits (cell_of m) vars (length m.starts) (negation l) fits law (asked_bound (cell_of m) vars (length m.starts) l below o) (box-sane m vars s below) f

pub asked_all_sane : (m : Box) (implied : Option Literal) (vars : List VarId) → AllBelow (length m.starts) vars → IsBox m → IsOpen (cell_of m) implied
    → AllSane (asked m implied) vars
asked_all_sane m implied vars below s o =
    each_map (λ u. u.0 < length m.starts) (λ u. IsSane (asked m implied u.0)) vars (λ u lt. sane_asked m implied u.0 (s.cells u.0 lt) o) below

-- the failing of an end, spelled out
pub le_fails : (l : Literal) → l.rel ≡ Le → record { var = l.var; rel = Ge; value = l.value +ℤ pos 1 } ≡ negation l
le_fails l e = sym (ap (λ (r : Rel). let n : Literal = record { var = l.var; rel = opposite r; value = opposite_value r l.value } in n) e)

pub ge_fails : (l : Literal) → l.rel ≡ Ge → record { var = l.var; rel = Le; value = l.value -ℤ pos 1 } ≡ negation l
ge_fails l e = sym (ap (λ (r : Rel). let n : Literal = record { var = l.var; rel = opposite r; value = opposite_value r l.value } in n) e)
