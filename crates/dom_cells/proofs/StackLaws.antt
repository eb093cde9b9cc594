-- The kept cells show the starts cut by the literals, and unmaking the last change goes back.
use Rattle.std.proofs.Common.{◌≡◌, ℕ, zero, suc, ◌+◌, ◌-◌, ◌<◌, ◌≤◌, Bool, true, false, ◌&&◌, List, [], ◌∷◌, ◌++◌, length, map, take, drop, get_or, set, ℤ, ◌≤ℤ◌, refl, sym, ◌∙◌, ap, subst, arith, ◌⊎◌, inl, inr, Some, slice_get, length-set, length-take-le}
use Rattle.std.proofs.lemmas.Int.{ints}
use Rattle.std.proofs.lemmas.List.{take_all, drop_all, take-append-le, drop-append-le, map_push, length_push, take_more}
use Rattle.std.proofs.lemmas.Option.{slice_get_within, slice_get_read, same_Some}
use Rattle.std.specs.Bool.{MatchBool}
use Rattle.dom_cells.specs.Cell.{has_of, lo_of, hi_of, IsSane, Suits, cut, IsCell, IsHeld, IsFalse, IsPossible, CanFail, IsTruth}
use Rattle.dom_core.specs.Literal.{holds_at}
use Rattle.dom_cells.specs.Box.{Box, CellsView, prefix_of, start_at, cell_of, cut_all, AllSuit, AllOver, IsBox, Undone}
use Rattle.dom_cells.specs.Flagged.{holds_in, IsWhole, stepped, restored, Steps, IsStep, IsFloor, IsCeiling, AllHold, NoneHolds, SomeHolds, SomeFails, IsShown}
use Rattle.dom_cells.specs.Stack.{start_of, literal_of, altered, unmade, before, Shows, IsCutBy, AllCut, AllWithin, IsStack, view_of}
use Rattle.dom_core.specs.declared.literal.Literal.{Literal}
use Rattle.dom_cells.specs.declared.start.Start.{Start}
use Rattle.dom_cells.specs.declared.truth.Truth.{Truth}
use Rattle.dom_cells.specs.declared.truth.Truth.TheVariants.{True, False, Open}
use Rattle.dom_cells.specs.declared.cell.Cell.{Cell}
use Rattle.dom_cells.specs.declared.cell.Step.TheVariants.{Change as Moved}
use Rattle.dom_cells.specs.declared.cells.Change.{Change}
use Rattle.dom_cells.specs.declared.cells.Cells.TheInside.{Inside}
use Rattle.dom_cells.proofs.CellLaws.{IsIn, is_in}
use Rattle.dom_core.proofs.ListLaws.{get_push, get_set_other, set_reads}
use Rattle.dom_core.proofs.TestLaws.{and_both}
use Rattle.dom_cells.proofs.PrefixLaws.{prefix_whole, prefix_prefix}
use Rattle.dom_cells.proofs.BoxLaws.{sane-cell, has-cut, sane-cut, cut_at-same, cut_at-other, cut_all-push, AllSuit-push, suits-cut_all, same_or_other}

-- ---- one cell

pub zero_below : (k : ℕ) → k ≤ 0 → 0 ≡ k
zero_below k h = omega arith

pub below_or_end : (k n : ℕ) → k ≤ n + 1 → (k ≤ n) ⊎ (k ≡ n + 1)
below_or_end k n h = grind arith

-- a cell that was cut shows the cut
pub shows-cut : (c new : Cell) (s : Start) (l : Literal) → Shows c s → Suits s l.rel → Steps c l new → Shows new (cut s l)
shows-cut c new s l w suits t =
    let has : (x : ℤ) → has_of (cut s l) x ≡ holds_in new x =
    λ x. has-cut s l x suits ∙ ap (λ (b : Bool). b && holds_at l x) (w.has x) ∙ sym (t.cuts x) in
    let some : has_of (cut s l) t.kept ≡ true = has t.kept ∙ t.cuts t.kept ∙ and_both (holds_in c t.kept) (holds_at l t.kept) t.kept_has t.kept_holds in
    let sane : IsSane (cut s l) = sane-cut s l t.kept w.sane some in
    let cell : IsCell (cut s l) = sane-cell (cut s l) sane in
    let low_in : IsIn new (lo_of (cut s l)) = is_in new (lo_of (cut s l)) (sym (has (lo_of (cut s l))) ∙ cell.least) in
    let high_in : IsIn new (hi_of (cut s l)) = is_in new (hi_of (cut s l)) (sym (has (hi_of (cut s l))) ∙ cell.greatest) in
    let low : new.lo ≤ℤ lo_of (cut s l) = low_in.low in
    let high : hi_of (cut s l) ≤ℤ new.hi = high_in.high in
    let low_back : lo_of (cut s l) ≤ℤ new.lo = cell.low new.lo (has new.lo ∙ t.sound.low) in
    let high_back : new.hi ≤ℤ hi_of (cut s l) = cell.high new.hi (has new.hi ∙ t.sound.high) in
    record { sound = t.sound; sane = sane; lo = omega (arith, ints); hi = omega (arith, ints); has = has }

pub whole-cut : (v : ℕ) (c : Cell) (s : Start) → IsSane s → IsWhole s c → IsCutBy v [] c
whole-cut v c s sane w =
    let cell : IsCell s = sane-cell s sane in
    let low_in : IsIn c (lo_of s) = is_in c (lo_of s) (w.all (lo_of s) ∙ cell.least) in
    let high_in : IsIn c (hi_of s) = is_in c (hi_of s) (w.all (hi_of s) ∙ cell.greatest) in
    let low : c.lo ≤ℤ lo_of s = low_in.low in
    let high : hi_of s ≤ℤ c.hi = high_in.high in
    let low_back : lo_of s ≤ℤ c.lo = cell.low c.lo (sym (w.all c.lo) ∙ w.sound.low) in
    let high_back : c.hi ≤ℤ hi_of s = cell.high c.hi (sym (w.all c.hi) ∙ w.sound.high) in
    let shows : Shows c s = record { sound = w.sound; sane = sane; lo = omega (arith, ints); hi = omega (arith, ints); has = λ x. sym (w.all x) } in
    record {
      start = subst IsSane (sym w.start) sane;
      shows = subst (Shows c) (sym w.start) shows;
      suit = tt;
    }

-- ---- lists with one entry changed

module _ {A : Type 0} where
  -- a change of what was written gives back what was there
  pub altered-set : (f : A → A) (xs : List A) (i : ℕ) (x y : A) → slice_get xs i ≡ Some x → f y ≡ x → altered f (set xs i y) i ≡ xs
  altered-set f [] i x y g e = refl
  altered-set f (w ∷ ws) zero x y g e = ap (λ (u : A). u ∷ ws) (e ∙ (cc))
  altered-set f (w ∷ ws) (suc i) x y g e = ap (λ (us : List A). w ∷ us) (altered-set f ws i x y g e)

  pub altered-is_set : (f : A → A) (xs : List A) (i : ℕ) (x : A) → slice_get xs i ≡ Some x → altered f xs i ≡ set xs i (f x)
  altered-is_set f [] i x g = refl
  altered-is_set f (w ∷ ws) zero x g = ap (λ (u : A). f u ∷ ws) (cc)
  altered-is_set f (w ∷ ws) (suc i) x g = ap (λ (us : List A). w ∷ us) (altered-is_set f ws i x g)

-- writing down and up again a flag that was up
pub set_back : (bs : List Bool) (k : ℕ) → (k < length bs → get_or bs k false ≡ true) → set (set bs k false) k true ≡ bs
set_back [] k up = refl
set_back (b ∷ bs) zero up = ap (λ (u : Bool). u ∷ bs) (sym (up (omega arith)))
set_back (b ∷ bs) (suc k) up = ap (λ (us : List Bool). b ∷ us) (set_back bs k (λ lt. up (omega arith)))

pub restored-stepped : (c : Cell) (lo hi : ℤ) (k : ℕ) → (k < length c.flags → get_or c.flags k false ≡ true) → restored (stepped c lo hi k) c.lo c.hi k ≡ c
restored-stepped c lo hi k up =
    ap (λ (fs : List Bool). let d : Cell = record { start = c.start; lo = c.lo; hi = c.hi; flags = fs } in d) (set_back c.flags k up)

-- ---- the stack

pub before-push : (cells : List Cell) (cs : List Change) (c : Change) → before cells (cs ++ c ∷ []) ≡ before (unmade cells c) cs
before-push cells [] c = refl
before-push cells (d ∷ ds) c = ap (λ (xs : List Cell). unmade xs d) (before-push cells ds c)

starts-altered : (f : Cell → Cell) (cells : List Cell) (i : ℕ) → ((c : Cell) → (f c).start ≡ c.start) → map start_of (altered f cells i) ≡ map start_of cells
starts-altered f [] i e = refl
starts-altered f (c ∷ cs) zero e = ap (λ (s : Start). s ∷ map start_of cs) (e c)
starts-altered f (c ∷ cs) (suc i) e = ap (λ (ss : List Start). c.start ∷ ss) (starts-altered f cs i e)

pub starts-unmade : (cells : List Cell) (c : Change) → map start_of (unmade cells c) ≡ map start_of cells
starts-unmade cells c = starts-altered (λ d. restored d c.lo c.hi c.hole) cells c.literal.var.0 (λ d. refl)

pub starts-set : (cells : List Cell) (v : ℕ) (cell new : Cell) → slice_get cells v ≡ Some cell → new.start ≡ cell.start
    → map start_of (set cells v new) ≡ map start_of cells
starts-set [] v cell new g e = refl
starts-set (c ∷ cs) zero cell new g e = ap (λ (s : Start). s ∷ map start_of cs) (e ∙ ap (λ (d : Cell). d.start) (same_Some cell c (sym g)))
starts-set (c ∷ cs) (suc v) cell new g e = ap (λ (ss : List Start). c.start ∷ ss) (starts-set cs v cell new g e)

length-altered : {A : Type 0} (f : A → A) (xs : List A) (i : ℕ) → length (altered f xs i) ≡ length xs
length-altered f [] i = refl
length-altered f (x ∷ xs) zero = refl
length-altered f (x ∷ xs) (suc i) = ap suc (length-altered f xs i)

pub length-unmade : (cells : List Cell) (c : Change) → length (unmade cells c) ≡ length cells
length-unmade cells c = length-altered (λ d. restored d c.lo c.hi c.hole) cells c.literal.var.0

within-push : (n : ℕ) (cs : List Change) (c : Change) → AllWithin n cs → c.literal.var.0 < n → AllWithin n (cs ++ c ∷ [])
within-push n [] c a h = (h, tt)
within-push n (d ∷ ds) c a h = (a.0, within-push n ds c a.1 h)

within-front : (n : ℕ) (cs : List Change) (c : Change) → AllWithin n (cs ++ c ∷ []) → AllWithin n cs
within-front n [] c a = tt
within-front n (d ∷ ds) c a = (a.0, within-front n ds c a.1)

pub within-last : (n : ℕ) (cs : List Change) (c : Change) → AllWithin n (cs ++ c ∷ []) → c.literal.var.0 < n
within-last n [] c a = a.0
within-last n (d ∷ ds) c a = within-last n ds c a.1

-- without a change every kept cell shows its start
pub stack-new : (cells : List Cell) → AllCut [] cells → IsStack cells []
stack-new cells all = record { shows = λ k le. subst (λ (n : ℕ). AllCut (map literal_of (take n [])) (before cells (drop n []))) (zero_below k le) all; within = tt }

-- the present cells
pub stack-now : (cells : List Cell) (cs : List Change) → IsStack cells cs → AllCut (map literal_of cs) cells
stack-now cells cs s =
    rw (take_all (length cs) cs (omega arith), drop_all (length cs) cs (omega arith)) at (s.shows (length cs) (omega arith))

-- the cells after one more change
all-cut-push : (cells : List Cell) (ls : List Literal) (l : Literal) (v : ℕ) (cell new : Cell) → AllCut ls cells → slice_get cells v ≡ Some cell → v ≡ l.var.0
    → Suits cell.start l.rel → new.start ≡ cell.start → Steps cell l new → AllCut (ls ++ l ∷ []) (set cells v new)
all-cut-push cells ls l v cell new all g at suits start step u c h =
    elim (same_or_other u v) [
      | inl same ↦ (let read : slice_get (set cells v new) v ≡ Some c = subst (λ (n : ℕ). slice_get (set cells v new) n ≡ Some c) same h in
          let is : c ≡ new = set_reads cells v cell new c g read in
          let old : IsCutBy v ls cell = all v cell g in
          let cut_is : cut_all v cell.start (ls ++ l ∷ []) ≡ cut (cut_all v cell.start ls) l =
          cut_all-push v cell.start ls l ∙ cut_at-same v (cut_all v cell.start ls) l at in
          let shows : Shows new (cut (cut_all v cell.start ls) l) =
          shows-cut cell new (cut_all v cell.start ls) l old.shows (suits-cut_all v cell.start ls l.rel suits) step in
          let made : IsCutBy v (ls ++ l ∷ []) new = record {
            start = subst IsSane (sym start) old.start;
            shows = subst (λ (s : Start). Shows new (cut_all v s (ls ++ l ∷ []))) (sym start) (subst (Shows new) (sym cut_is) shows);
            suit = subst (λ (s : Start). AllSuit v s (ls ++ l ∷ [])) (sym start) (AllSuit-push v cell.start ls l old.suit (λ e. suits));
          } in
          subst (λ (n : ℕ). IsCutBy n (ls ++ l ∷ []) c) (sym same) (subst (IsCutBy v (ls ++ l ∷ [])) (sym is) made))
      | inr other ↦ (let read : slice_get cells u ≡ Some c = sym (get_set_other cells v u new other) ∙ h in
          let old : IsCutBy u ls c = all u c read in
          let apart : u ≡ l.var.0 → ⊥ = λ e. other (e ∙ sym at) in
          let cut_is : cut_all u c.start (ls ++ l ∷ []) ≡ cut_all u c.start ls =
          cut_all-push u c.start ls l ∙ cut_at-other u (cut_all u c.start ls) l apart in
          record { start = old.start; shows = subst (Shows c) (sym cut_is) old.shows; suit = AllSuit-push u c.start ls l old.suit (λ e. absurd (apart e)) })
    ]

pub stack-push : (cells : List Cell) (cs : List Change) (change : Change) (v : ℕ) (cell new : Cell) → IsStack cells cs → slice_get cells v ≡ Some cell
    → v ≡ change.literal.var.0 → Suits cell.start change.literal.rel → new.start ≡ cell.start → Steps cell change.literal new
    → restored new change.lo change.hi change.hole ≡ cell
    → IsStack (set cells v new) (cs ++ change ∷ [])
stack-push cells cs change v cell new s g at suits start step back =
    let gone : unmade (set cells v new) change ≡ cells =
    subst (λ (n : ℕ). altered (λ d. restored d change.lo change.hi change.hole) (set cells v new) n ≡ cells) at
    (altered-set (λ d. restored d change.lo change.hi change.hole) cells v cell new g back) in
    let now : AllCut (map literal_of cs ++ change.literal ∷ []) (set cells v new) =
    all-cut-push cells (map literal_of cs) change.literal v cell new (stack-now cells cs s) g at suits start step in
    let all : AllCut (map literal_of (cs ++ change ∷ [])) (set cells v new) =
    subst (λ (ls : List Literal). AllCut ls (set cells v new)) (sym (map_push literal_of cs change)) now in
    record {
      shows = λ k le.
          elim (below_or_end k (length cs) (rw length_push at le)) [
            | inl below ↦ (let t : take k (cs ++ change ∷ []) ≡ take k cs = take-append-le k cs (change ∷ []) below in
                let d : drop k (cs ++ change ∷ []) ≡ drop k cs ++ change ∷ [] = drop-append-le k cs (change ∷ []) below in
                let e : before (set cells v new) (drop k (cs ++ change ∷ [])) ≡ before cells (drop k cs) =
                ap (before (set cells v new)) d ∙ before-push (set cells v new) (drop k cs) change ∙ ap (λ (xs : List Cell). before xs (drop k cs)) gone in
                rw (t, e) (s.shows k below))
            | inr end ↦ (let t : take k (cs ++ change ∷ []) ≡ cs ++ change ∷ [] = take_all k (cs ++ change ∷ []) (rw length_push (omega arith)) in
                let d : drop k (cs ++ change ∷ []) ≡ [] = drop_all k (cs ++ change ∷ []) (rw length_push (omega arith)) in
                rw (t, d) all)
          ];
      within = subst (λ (n : ℕ). AllWithin n (cs ++ change ∷ [])) (sym (length-set cells v new))
          (within-push (length cells) cs change s.within (rw (← at) (slice_get_within cells v cell g)));
    }

pub stack-pop : (cells : List Cell) (cs : List Change) (change : Change) → IsStack cells (cs ++ change ∷ []) → IsStack (unmade cells change) cs
stack-pop cells cs change s = record {
  shows = λ k le.
      (let t : take k (cs ++ change ∷ []) ≡ take k cs = take-append-le k cs (change ∷ []) le in
      let d : drop k (cs ++ change ∷ []) ≡ drop k cs ++ change ∷ [] = drop-append-le k cs (change ∷ []) le in
      let e : before cells (drop k (cs ++ change ∷ [])) ≡ before (unmade cells change) (drop k cs) =
      ap (before cells) d ∙ before-push cells (drop k cs) change in
      rw (t, e) at (s.shows k (rw length_push (omega arith))));
  within = subst (λ (n : ℕ). AllWithin n cs) (sym (length-unmade cells change)) (within-front (length cells) cs change s.within);
}

-- ---- what contracts see

pub start_at-cell : (cells : List Cell) (v : ℕ) (c : Cell) → slice_get cells v ≡ Some c → start_at (map start_of cells) v ≡ c.start
start_at-cell [] v c g = absurd (cc)
start_at-cell (d ∷ ds) zero c g = ap (λ (e : Cell). e.start) (same_Some d c g)
start_at-cell (d ∷ ds) (suc v) c g = start_at-cell ds v c g

pub length-starts : (cells : List Cell) → length (map start_of cells) ≡ length cells
length-starts [] = refl
length-starts (c ∷ cs) = ap suc (length-starts cs)

pub some_cell : (cells : List Cell) (v : ℕ) → v < length cells → (c : Cell) × (slice_get cells v ≡ Some c)
some_cell [] v h = absurd (omega arith)
some_cell (c ∷ cs) zero h = (c, refl)
some_cell (c ∷ cs) (suc v) h = some_cell cs v (omega arith)

over_within : (n : ℕ) (cs : List Change) → AllWithin n cs → AllOver n (map literal_of cs)
over_within n [] a i l h = absurd (cc)
over_within n (c ∷ cs) a zero l h = subst (λ (k : Literal). k.var.0 < n) (same_Some c.literal l h) a.0
over_within n (c ∷ cs) a (suc i) l h = over_within n cs a.1 i l h

pub box-of : (cells : List Cell) (cs : List Change) → IsStack cells cs
    → IsBox (record { starts = map start_of cells; literals = map literal_of cs })
box-of cells cs s =
    let now : AllCut (map literal_of cs) cells = stack-now cells cs s in
    let at : (v : ℕ) → v < length (map start_of cells) → (c : Cell) × (slice_get cells v ≡ Some c) =
    λ v lt. some_cell cells v (rw length-starts at lt) in
    record {
      starts = λ v lt. (let c = at v lt in rw (start_at-cell cells v c.0 c.1) (now v c.0 c.1).start);
      cells = λ v lt. (let c = at v lt in rw (start_at-cell cells v c.0 c.1) (now v c.0 c.1).shows.sane);
      suit = λ v lt. (let c = at v lt in rw (start_at-cell cells v c.0 c.1) (now v c.0 c.1).suit);
      within = rw length-starts (over_within (length cells) cs s.within);
    }

-- a kept cell, and what contracts see of it
pub record IsOpen (m : Box) (v : ℕ) (c : Cell) : Type 0 where
  pub start : start_at m.starts v ≡ c.start
  pub shows : Shows c (cell_of m v)
  pub sound : IsBox m

pub open_cell : (i : Inside) (m : CellsView) (v : ℕ) (c : Cell) → IsStack i.cells.items i.changes.items → view_of i ≡ m → slice_get i.cells.items v ≡ Some c
    → IsOpen m.state v c
open_cell i m v c s view g =
    let start : start_at (map start_of i.cells.items) v ≡ c.start = start_at-cell i.cells.items v c g in
    let cut : IsCutBy v (map literal_of i.changes.items) c = stack-now i.cells.items i.changes.items s v c g in
    subst (λ (t : CellsView). IsOpen t.state v c) view (record {
      start = start;
      shows = rw start cut.shows;
      sound = box-of i.cells.items i.changes.items s;
    })

pub open_at : (i : Inside) (m : CellsView) (v : ℕ) (x : Cell) → IsStack i.cells.items i.changes.items → view_of i ≡ m → v < length m.state.starts
    → x ≡ get_or i.cells.items v x → IsOpen m.state v x
open_at i m v x s view lt read =
    let n : length m.state.starts ≡ length i.cells.items = ap (λ (t : CellsView). length t.state.starts) (sym view) ∙ length-starts i.cells.items in
    open_cell i m v x s view (slice_get_read i.cells.items (length m.state.starts) v x n lt read)

pub view-box : (i : Inside) (m : CellsView) → IsStack i.cells.items i.changes.items → view_of i ≡ m → IsBox m.state
view-box i m s view = subst (λ (t : CellsView). IsBox t.state) view (box-of i.cells.items i.changes.items s)

-- a step that leaves the box
pub held-cell : (m : Box) (v : ℕ) (c : Cell) (l : Literal) → IsOpen m v c → AllHold c l → IsHeld (cell_of m v) l
held-cell m v c l o h = record { all = λ x t. h x (sym (o.shows.has x) ∙ t) }

pub false-cell : (m : Box) (v : ℕ) (c : Cell) (l : Literal) → IsOpen m v c → NoneHolds c l → IsFalse (cell_of m v) l
false-cell m v c l o h = record { none = λ x t. h x (sym (o.shows.has x) ∙ t) }

pub possible-cell : (m : Box) (v : ℕ) (c : Cell) (l : Literal) → IsOpen m v c → SomeHolds c l → IsPossible (cell_of m v) l
possible-cell m v c l o h = record { value = h.0; has = o.shows.has h.0 ∙ h.1; holds = h.2 }

pub fails-cell : (m : Box) (v : ℕ) (c : Cell) (l : Literal) → IsOpen m v c → SomeFails c l → CanFail (cell_of m v) l
fails-cell m v c l o h = record { value = h.0; has = o.shows.has h.0 ∙ h.1; fails = h.2 }

pub held-test : (m : Box) (v : ℕ) (c : Cell) (l : Literal) (b : Bool) → IsOpen m v c → MatchBool b (AllHold c l) (SomeFails c l)
    → MatchBool b (IsHeld (cell_of m v) l) (CanFail (cell_of m v) l)
held-test m v c l true o h = held-cell m v c l o h
held-test m v c l false o h = fails-cell m v c l o h

pub false-test : (m : Box) (v : ℕ) (c : Cell) (l : Literal) (b : Bool) → IsOpen m v c → MatchBool b (NoneHolds c l) (SomeHolds c l)
    → MatchBool b (IsFalse (cell_of m v) l) (IsPossible (cell_of m v) l)
false-test m v c l true o h = false-cell m v c l o h
false-test m v c l false o h = possible-cell m v c l o h

pub truth-cell : (m : Box) (v : ℕ) (c : Cell) (l : Literal) (t : Truth) → IsOpen m v c → IsShown c l t → IsTruth (cell_of m v) l t
truth-cell m v c l True o h = held-cell m v c l o h
truth-cell m v c l False o h = false-cell m v c l o h
truth-cell m v c l Open o h = (possible-cell m v c l o h.0, fails-cell m v c l o h.1)

pub floor-cell : (m : Box) (v : ℕ) (c : Cell) (value r : ℤ) → IsOpen m v c → IsFloor (holds_in c) value r → IsFloor (has_of (cell_of m v)) value r
floor-cell m v c value r o f = record {
  has = o.shows.has r ∙ f.has;
  at_most = f.at_most;
  greatest = λ x h le. f.greatest x (sym (o.shows.has x) ∙ h) le;
}

pub ceiling-cell : (m : Box) (v : ℕ) (c : Cell) (value r : ℤ) → IsOpen m v c → IsCeiling (holds_in c) value r → IsCeiling (has_of (cell_of m v)) value r
ceiling-cell m v c value r o f = record {
  has = o.shows.has r ∙ f.has;
  at_least = f.at_least;
  least = λ x h le. f.least x (sym (o.shows.has x) ∙ h) le;
}

-- ---- the two ways to change the stack

pub narrowed_stack : (cells : List Cell) (cs : List Change) (l : Literal) (a b : Cell) (lo hi : ℤ) (hole : ℕ) (flags : List Bool) → IsStack cells cs
    → slice_get cells l.var.0 ≡ Some a → slice_get cells l.var.0 ≡ Some b → Suits a.start l.rel → IsStep a l (Moved lo hi hole) → flags ≡ set b.flags hole false
    → IsStack (set cells l.var.0 (record { start = b.start; lo = lo; hi = hi; flags = flags })) (cs ++ record { literal = l; lo = b.lo; hi = b.hi; hole = hole } ∷ [])
narrowed_stack cells cs l a b lo hi hole flags s ga gb suits step f =
    let e : b ≡ a = same_Some b a (sym gb ∙ ga) in
    rw (f, e) (stack-push cells cs (record { literal = l; lo = a.lo; hi = a.hi; hole = hole }) l.var.0 a (stepped a lo hi hole) s ga refl suits refl step.0
    (restored-stepped a lo hi hole step.1))

pub popped_stack : (cells : List Cell) (all cs : List Change) (change : Change) (b : Cell) (flags : List Bool) → IsStack cells all → all ≡ cs ++ change ∷ []
    → slice_get cells change.literal.var.0 ≡ Some b → flags ≡ set b.flags change.hole true
    → IsStack (set cells change.literal.var.0 (record { start = b.start; lo = change.lo; hi = change.hi; flags = flags })) cs
popped_stack cells all cs change b flags s e g f =
    rw (f, ← altered-is_set (λ d. restored d change.lo change.hi change.hole) cells change.literal.var.0 b g) (stack-pop cells cs change (rw e at s))

pub popped-within : (cells : List Cell) (all cs : List Change) (change : Change) → IsStack cells all → all ≡ cs ++ change ∷ [] → change.literal.var.0 < length cells
popped-within cells all cs change s e = within-last (length cells) cs change (rw e at s.within)

-- the literals before the last
pub literals-front : (all cs : List Change) (change : Change) → all ≡ cs ++ change ∷ []
    → map literal_of cs ≡ take (length (map literal_of all) - 1) (map literal_of all)
literals-front all cs change e =
    let whole : map literal_of all ≡ map literal_of cs ++ change.literal ∷ [] = ap (map literal_of) e ∙ map_push literal_of cs change in
    let n : length (map literal_of all) - 1 ≡ length (map literal_of cs) =
    (let m : length (map literal_of all) ≡ length (map literal_of cs) + 1 = ap length whole ∙ length_push (map literal_of cs) change.literal in omega arith) in
    rw (n, whole) (sym (take-append-le (length (map literal_of cs)) (map literal_of cs) (change.literal ∷ []) (omega arith)
    ∙ take_all (length (map literal_of cs)) (map literal_of cs) (omega arith)))

-- ---- going back step by step

pub undone-none : (m : CellsView) → Undone m (length m.state.literals) m
undone-none m = record { state = sym (prefix_whole m.state); spare = omega arith }

-- a step back leaves one literal fewer
pub undone-count : (b c : CellsView) → Undone b (length b.state.literals - 1) c → length c.state.literals ≡ length b.state.literals - 1
undone-count b c next =
    ap (λ (m : Box). length m.literals) next.state ∙ length-take-le (length b.state.literals - 1) b.state.literals (omega arith)

pub undone-more : (a b c : CellsView) → Undone a (length b.state.literals) b → Undone b (length b.state.literals - 1) c → Undone a (length c.state.literals) c
undone-more a b c first next =
    let n : length c.state.literals ≡ length b.state.literals - 1 = undone-count b c next in
    let p : b.spare + length b.state.literals ≡ a.spare + length a.state.literals = first.spare in
    let q : c.spare + (length b.state.literals - 1) ≡ b.spare + length b.state.literals = next.spare in
    record {
      state = next.state ∙ ap (prefix_of (length b.state.literals - 1)) first.state
          ∙ prefix_prefix a.state (length b.state.literals - 1) (length b.state.literals) (omega arith)
          ∙ ap (λ (k : ℕ). prefix_of k a.state) (sym n);
      spare = omega arith;
    }

pub undone-fewer : (b c : CellsView) → Undone b (length b.state.literals - 1) c → 0 < length b.state.literals
    → length c.state.literals + 1 ≡ length b.state.literals
undone-fewer b c next some =
    let n : length c.state.literals ≡ length b.state.literals - 1 = undone-count b c next in
    omega arith

-- ---- building the cells one by one

pub all-cut-more : (cells : List Cell) (c : Cell) (s : Start) → AllCut [] cells → IsSane s → IsWhole s c → AllCut [] (cells ++ c ∷ [])
all-cut-more cells c s all sane whole v d h =
    elim (get_push cells c d v h) [
      | inl old ↦ all v d old
      | inr new ↦ subst (IsCutBy v []) new.1 (whole-cut v c s sane whole)
    ]

pub all-cut-none : AllCut [] []
all-cut-none v c h = absurd (cc)

pub starts-more : (cells : List Cell) (starts : List Start) (c : Cell) (s : Start) (i : ℕ) → map start_of cells ≡ take i starts → i < length starts
    → s ≡ get_or starts i s → c.start ≡ s → map start_of (cells ++ c ∷ []) ≡ take (i + 1) starts
starts-more cells starts c s i e lt read is =
    map_push start_of cells c ∙ ap (λ (xs : List Start). xs ++ c.start ∷ []) e ∙ ap (λ (t : Start). take i starts ++ t ∷ []) (is ∙ read)
    ∙ sym (take_more starts i s lt)
