-- Boxes with more literals and with fewer.
use Rattle.std.proofs.Common.{◌≡◌, ℕ, ◌<◌, ◌≤◌, Bool, true, List, [], ◌∷◌, ◌++◌, length, take, drop, ℤ, refl, sym, ◌∙◌, ap, subst, arith, inl, inr}
use Rattle.std.proofs.Math.Path.{fun_ext}
use Rattle.std.proofs.lemmas.List.{take_all, take-take, take-append-drop}
use Rattle.dom_core.specs.Literal.{holds_at}
use Rattle.dom_core.specs.declared.literal.Literal.{Literal}
use Rattle.dom_cells.specs.Box.{Box, start_at, cell_of, cut_all, kept, pushed, prefix_of, AllSuit, IsBox}
use Rattle.dom_cells.specs.Cell.{has_of, lo_of, hi_of, IsSane, Suits, IsCell, IsPart, IsPossible}
use Rattle.dom_cells.specs.declared.start.Start.{Start}
use Rattle.dom_core.proofs.ListLaws.{get_push, get_take}
use Rattle.dom_core.proofs.TestLaws.{and_first, and_both}
use Rattle.dom_cells.proofs.BoxLaws.{sane-cell, sane-cut, has-cut, cut_at-same, cut_at-other, same_or_other, suits-cut_all, cut_all-append, cut_all-push, AllSuit-push, has-cut_all, sane-cut_all, holds_all}

-- ---- one cell

suit_front : (v : ℕ) (c : Start) (ls ks : List Literal) → AllSuit v c (ls ++ ks) → AllSuit v c ls
suit_front v c [] ks a = tt
suit_front v c (l ∷ ls) ks a = (a.0, suit_front v c ls ks a.1)

suit_back : (v : ℕ) (c : Start) (ls ks : List Literal) → AllSuit v c (ls ++ ks) → AllSuit v c ks
suit_back v c [] ks a = a
suit_back v c (l ∷ ls) ks a = suit_back v c ls ks a.1

suit_cut : (v : ℕ) (c : Start) (ls ks : List Literal) → AllSuit v c ks → AllSuit v (cut_all v c ls) ks
suit_cut v c ls [] a = tt
suit_cut v c ls (k ∷ ks) a = ((λ e. suits-cut_all v c ls k.rel (a.0 e)), suit_cut v c ls ks a.1)

-- more literals leave no other values
pub has_fewer : (v : ℕ) (c : Start) (ls ks : List Literal) (x : ℤ) → AllSuit v c (ls ++ ks) → has_of (cut_all v c (ls ++ ks)) x ≡ true → has_of (cut_all v c ls) x ≡ true
has_fewer v c ls ks x a h =
    and_first (has_of (cut_all v c ls) x) (holds_all v ks x)
    (sym (has-cut_all v (cut_all v c ls) ks x (suit_cut v c ls ks (suit_back v c ls ks a))) ∙ ap (λ (d : Start). has_of d x) (sym (cut_all-append v c ls ks)) ∙ h)

pub sane_fewer : (v : ℕ) (c : Start) (ls ks : List Literal) → AllSuit v c (ls ++ ks) → IsSane c → IsSane (cut_all v c (ls ++ ks)) → IsSane (cut_all v c ls)
sane_fewer v c ls ks a s t =
    sane-cut_all v c ls (lo_of (cut_all v c (ls ++ ks))) (suit_front v c ls ks a) s
    (has_fewer v c ls ks (lo_of (cut_all v c (ls ++ ks))) a (sane-cell (cut_all v c (ls ++ ks)) t).least)

-- cut by more literals a cell lies in what it was
pub part_fewer : (inside : Bool) (v : ℕ) (c : Start) (ls ks : List Literal) → AllSuit v c (ls ++ ks) → IsSane c → IsSane (cut_all v c (ls ++ ks))
    → IsPart inside (cut_all v c (ls ++ ks)) (cut_all v c ls)
part_fewer inside v c ls ks a s t =
    let small : IsCell (cut_all v c (ls ++ ks)) = sane-cell (cut_all v c (ls ++ ks)) t in
    let large : IsCell (cut_all v c ls) = sane-cell (cut_all v c ls) (sane_fewer v c ls ks a s t) in
    record {
      cell = small;
      whole = large;
      low = large.low (lo_of (cut_all v c (ls ++ ks))) (has_fewer v c ls ks (lo_of (cut_all v c (ls ++ ks))) a small.least);
      high = large.high (hi_of (cut_all v c (ls ++ ks))) (has_fewer v c ls ks (hi_of (cut_all v c (ls ++ ks))) a small.greatest);
      values = λ _ x h. has_fewer v c ls ks x a h;
    }

-- ---- boxes

-- boxes with the same starts and the same literals
pub same_box : {starts others : List Start} {literals more : List Literal} → starts ≡ others → literals ≡ more
    → (let b : Box = record { starts = starts; literals = literals } in b) ≡ (let b : Box = record { starts = others; literals = more } in b)
same_box same alike = cc

pub prefix_whole : (m : Box) → prefix_of (length m.literals) m ≡ m
prefix_whole m =
    ap (λ (ls : List Literal). let b : Box = record { starts = m.starts; literals = ls } in b) (take_all (length m.literals) m.literals (omega arith))

pub prefix_prefix : (m : Box) (k n : ℕ) → k ≤ n → prefix_of k (prefix_of n m) ≡ prefix_of k m
prefix_prefix m k n le =
    ap (λ (ls : List Literal). let b : Box = record { starts = m.starts; literals = ls } in b) (take-take k n m.literals le)

-- the box with one literal more, cell by cell
pub cell_pushed : (m : Box) (l : Literal) → cell_of (pushed m l) ≡ kept (cell_of m) l
cell_pushed m l = fun_ext (λ v. cut_all-push v (start_at m.starts v) m.literals l)

module _ (m : Box) (n : ℕ) (sound : IsBox m) where
  suit_whole : (v : ℕ) → v < length m.starts → AllSuit v (start_at m.starts v) (take n m.literals ++ drop n m.literals)
  suit_whole v lt = subst (AllSuit v (start_at m.starts v)) (sym (take-append-drop n m.literals)) (sound.suit v lt)

  sane_whole : (v : ℕ) → v < length m.starts → IsSane (cut_all v (start_at m.starts v) (take n m.literals ++ drop n m.literals))
  sane_whole v lt = subst (λ (ls : List Literal). IsSane (cut_all v (start_at m.starts v) ls)) (sym (take-append-drop n m.literals)) (sound.cells v lt)

  -- a box as it was after so many literals is one
  pub box_prefix : IsBox (prefix_of n m)
  box_prefix = record {
    starts = sound.starts;
    cells = λ v lt. sane_fewer v (start_at m.starts v) (take n m.literals) (drop n m.literals) (suit_whole v lt) (sound.starts v lt) (sane_whole v lt);
    suit = λ v lt. suit_front v (start_at m.starts v) (take n m.literals) (drop n m.literals) (suit_whole v lt);
    within = λ i l h. sound.within i l (get_take m.literals n i l h).1;
  }

  -- and the box lies in it
  pub part_prefix : (inside : Bool) (v : ℕ) → v < length m.starts → IsPart inside (cell_of m v) (cell_of (prefix_of n m) v)
  part_prefix inside v lt =
      subst (λ (ls : List Literal). IsPart inside (cut_all v (start_at m.starts v) ls) (cell_of (prefix_of n m) v)) (take-append-drop n m.literals)
      (part_fewer inside v (start_at m.starts v) (take n m.literals) (drop n m.literals) (suit_whole v lt) (sound.starts v lt) (sane_whole v lt))

-- a literal that may hold can be cut into a box
module _ (m : Box) (l : Literal) (sound : IsBox m) (suits : Suits (start_at m.starts l.var.0) l.rel) (possible : IsPossible (cell_of m l.var.0) l) where
  has_left : has_of (kept (cell_of m) l l.var.0) possible.value ≡ true
  has_left =
      ap (λ (d : Start). has_of d possible.value) (cut_at-same l.var.0 (cell_of m l.var.0) l refl)
      ∙ has-cut (cell_of m l.var.0) l possible.value (suits-cut_all l.var.0 (start_at m.starts l.var.0) m.literals l.rel suits)
      ∙ and_both (has_of (cell_of m l.var.0) possible.value) (holds_at l possible.value) possible.has possible.holds

  sane_pushed : (v : ℕ) → v < length m.starts → IsSane (kept (cell_of m) l v)
  sane_pushed v lt = elim (same_or_other v l.var.0) [
    | inl same ↦ subst (λ (w : ℕ). IsSane (kept (cell_of m) l w)) (sym same)
        (subst IsSane (sym (cut_at-same l.var.0 (cell_of m l.var.0) l refl))
        (sane-cut (cell_of m l.var.0) l possible.value (sound.cells l.var.0 (subst (λ (w : ℕ). w < length m.starts) same lt))
        (ap (λ (d : Start). has_of d possible.value) (sym (cut_at-same l.var.0 (cell_of m l.var.0) l refl)) ∙ has_left)))
    | inr other ↦ subst IsSane (sym (cut_at-other v (cell_of m v) l other)) (sound.cells v lt)
  ]

  pub box_pushed : l.var.0 < length m.starts → IsBox (pushed m l)
  box_pushed below = record {
    starts = sound.starts;
    cells = λ v lt. subst IsSane (sym (cut_all-push v (start_at m.starts v) m.literals l)) (sane_pushed v lt);
    suit = λ v lt. AllSuit-push v (start_at m.starts v) m.literals l (sound.suit v lt)
        (λ e. subst (λ (w : ℕ). Suits (start_at m.starts w) l.rel) (sym e) suits);
    within = λ i k h. elim (get_push m.literals l k i h) [
      | inl old ↦ sound.within i k old
      | inr new ↦ subst (λ (j : Literal). j.var.0 < length m.starts) new.1 below
    ];
  }
