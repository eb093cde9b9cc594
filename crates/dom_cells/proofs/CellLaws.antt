-- What a literal makes of a cell that is kept as two ends and flags.
use Rattle.std.proofs.Common.{◌≡◌, ℕ, ◌<◌, Bool, true, false, not, ◌&&◌, ◌||◌, List, [], ◌∷◌, length, get_or, set, replicate, ℤ, pos, ◌+ℤ◌, ◌-ℤ◌, ◌<ℤ◌, ◌≤ℤ◌, int_le, refl, sym, ◌∙◌, ap, subst, arith, inl, inr, length-set}
use Rattle.std.proofs.lemmas.Int.{ints}
use Rattle.std.proofs.lemmas.List.{set_past, get_or-set_same, get_or-set_other, length-replicate}
use Rattle.std.specs.Ordering.{int_eq}
use Rattle.dom_core.specs.Rises.{is_among, Rises, first_of, last_of}
use Rattle.dom_core.specs.Domain.{IsDomain}
use Rattle.dom_cells.specs.Cell.{lo_of, hi_of, IsSane, IsInOrder}
use Rattle.dom_core.specs.Literal.{holds_at}
use Rattle.dom_core.specs.Rises.{IsRank}
use Rattle.dom_cells.specs.Flagged.{is_kept, is_flagged, holds_in, HasFlags, HasDomain, flag_count, IsSound, IsWhole, IsFloor, IsCeiling, stepped, IsStep, IsPlace}
use Rattle.dom_core.specs.declared.literal.Literal.{Literal}
use Rattle.dom_core.specs.declared.literal.Rel.TheVariants.{Le, Ge, Eq, Ne}
use Rattle.dom_cells.specs.declared.start.Start.{Start}
use Rattle.dom_cells.specs.declared.start.Start.TheVariants.{Values, Span}
use Rattle.dom_cells.specs.declared.cell.Cell.{Cell}
use Rattle.dom_cells.specs.declared.cell.Step.TheVariants.{Change}
use Rattle.dom_core.proofs.RisesLaws.{same_test, int_eq_same, int_eq_from, first_least, last_greatest, first_among, last_among}
use Rattle.dom_cells.proofs.FlagLaws.{Place, place_of, kept_from_place, same_place, place_is_rank}
use Rattle.dom_core.proofs.TestLaws.{le_true, true_le, false_eq, not_true, and_first, and_second, and_both, true_or_false, not_both}
use Rattle.dom_core.proofs.LiteralLaws.{le_holds, holds_le, fails_le, ge_holds, holds_ge, fails_ge, eq_holds, holds_eq, fails_eq, ne_holds, holds_ne, fails_ne}

-- ---- values of a cell

-- what it is to be a value of the cell
pub record IsIn (c : Cell) (x : ℤ) : Type 0 where
  pub low : c.lo ≤ℤ x
  pub high : x ≤ℤ c.hi
  pub flag : is_flagged c.start c.flags x ≡ true

pub is_in : (c : Cell) (x : ℤ) → holds_in c x ≡ true → IsIn c x
is_in c x h =
    let rest : (int_le x c.hi && is_flagged c.start c.flags x) ≡ true = and_second (int_le c.lo x) _ h in
    record {
      low = le_true c.lo x (and_first (int_le c.lo x) (int_le x c.hi && is_flagged c.start c.flags x) h);
      high = le_true x c.hi (and_first (int_le x c.hi) (is_flagged c.start c.flags x) rest);
      flag = and_second (int_le x c.hi) (is_flagged c.start c.flags x) rest;
    }

pub in_is : (c : Cell) (x : ℤ) → IsIn c x → holds_in c x ≡ true
in_is c x i = and_both (int_le c.lo x) (int_le x c.hi && is_flagged c.start c.flags x) (true_le c.lo x i.low)
    (and_both (int_le x c.hi) (is_flagged c.start c.flags x) (true_le x c.hi i.high) i.flag)

pub sound_ends : (c : Cell) → IsSound c → c.lo ≤ℤ c.hi
sound_ends c s = (is_in c c.lo s.low).high

-- ---- steps

-- the flags keep their number
pub flags_kept : (start : Start) (bs : List Bool) (k : ℕ) (b : Bool) → HasFlags start bs → HasFlags start (set bs k b)
flags_kept (Values xs) bs k b h = (h.0, length-set bs k b ∙ h.1)
flags_kept (Span lo hi) bs k b h = tt

-- a step that moves the ends alone
pub ends_step : (c : Cell) (l : Literal) (lo hi lost : ℤ) → IsSound c → holds_in c lo ≡ true → holds_in c hi ≡ true → lo ≤ℤ hi
    → ((x : ℤ) → holds_in c x ≡ true → holds_at l x ≡ true → (lo ≤ℤ x) × (x ≤ℤ hi))
    → ((x : ℤ) → holds_in c x ≡ true → lo ≤ℤ x → x ≤ℤ hi → holds_at l x ≡ true)
    → holds_in c lost ≡ true → holds_at l lost ≡ false
    → IsStep c l (Change lo hi (length c.flags))
ends_step c l lo hi lost s has_lo has_hi order inner outer has_lost fails =
    let same : set c.flags (length c.flags) false ≡ c.flags = set_past c.flags (length c.flags) false (omega arith) in
    let new : Cell = stepped c lo hi (length c.flags) in
    let low_in : IsIn c lo = is_in c lo has_lo in
    let high_in : IsIn c hi = is_in c hi has_hi in
    let flag : (x : ℤ) → is_flagged c.start (set c.flags (length c.flags) false) x ≡ is_flagged c.start c.flags x =
    λ x. ap (λ (bs : List Bool). is_flagged c.start bs x) same in (
      record {
        kept = lo;
        kept_has = has_lo;
        kept_holds = outer lo has_lo (omega (arith, ints)) order;
        lost = lost;
        lost_has = has_lost;
        lost_fails = fails;
        sound = record {
          flags = flags_kept c.start c.flags (length c.flags) false s.flags;
          low = in_is (stepped c lo hi (length c.flags)) lo (record { low = omega (arith, ints); high = order; flag = flag lo ∙ low_in.flag });
          high = in_is (stepped c lo hi (length c.flags)) hi (record { low = order; high = omega (arith, ints); flag = flag hi ∙ high_in.flag });
        };
        cuts = λ x. same_test _ _
            (λ h. (let i : IsIn (stepped c lo hi (length c.flags)) x = is_in (stepped c lo hi (length c.flags)) x h in
            let a : lo ≤ℤ x = i.low in
            let b : x ≤ℤ hi = i.high in
            let p : c.lo ≤ℤ lo = low_in.low in
            let q : hi ≤ℤ c.hi = high_in.high in
            let old : holds_in c x ≡ true = in_is c x (record { low = omega (arith, ints); high = omega (arith, ints); flag = sym (flag x) ∙ i.flag }) in
            and_both (holds_in c x) (holds_at l x) old (outer x old a b)))
            (λ h. (let old : holds_in c x ≡ true = and_first (holds_in c x) (holds_at l x) h in
            let t = inner x old (and_second (holds_in c x) (holds_at l x) h) in
            in_is (stepped c lo hi (length c.flags)) x (record { low = t.0; high = t.1; flag = flag x ∙ (is_in c x old).flag })));
      },
      λ lt. absurd (omega arith),
    )

pub down_step : (c : Cell) (l : Literal) (r : ℤ) → IsSound c → l.rel ≡ Le → c.lo ≤ℤ l.value → l.value <ℤ c.hi
    → IsFloor (holds_in c) l.value r → IsStep c l (Change c.lo r (length c.flags))
down_step c l r s rel low high f =
    let i : IsIn c r = is_in c r f.has in
    let at_most : r ≤ℤ l.value = f.at_most in
    ends_step c l c.lo r c.hi s s.low f.has i.low
    (λ x h g. ((is_in c x h).low, f.greatest x h (le_holds l x rel g)))
    (λ x h a b. holds_le l x rel (omega (arith, ints)))
    s.high (fails_le l c.hi rel high)

pub up_step : (c : Cell) (l : Literal) (r : ℤ) → IsSound c → l.rel ≡ Ge → c.lo <ℤ l.value → l.value ≤ℤ c.hi
    → IsCeiling (holds_in c) l.value r → IsStep c l (Change r c.hi (length c.flags))
up_step c l r s rel low high f =
    let i : IsIn c r = is_in c r f.has in
    let at_least : l.value ≤ℤ r = f.at_least in
    ends_step c l r c.hi c.lo s f.has s.high i.high
    (λ x h g. (f.least x h (ge_holds l x rel g), (is_in c x h).high))
    (λ x h a b. holds_ge l x rel (omega (arith, ints)))
    s.low (fails_ge l c.lo rel low)

pub to_step : (c : Cell) (l : Literal) → IsSound c → l.rel ≡ Eq → holds_in c l.value ≡ true → (c.lo ≡ c.hi → ⊥)
    → IsStep c l (Change l.value l.value (length c.flags))
to_step c l s rel has apart =
    let ends : c.lo ≤ℤ c.hi = sound_ends c s in
    let inner : (x : ℤ) → holds_in c x ≡ true → holds_at l x ≡ true → (l.value ≤ℤ x) × (x ≤ℤ l.value) =
    λ x h g. (let e : x ≡ l.value = eq_holds l x rel g in (omega (arith, ints), omega (arith, ints))) in
    let outer : (x : ℤ) → holds_in c x ≡ true → l.value ≤ℤ x → x ≤ℤ l.value → holds_at l x ≡ true =
    λ x h a b. holds_eq l x rel (omega (arith, ints)) in
    elim (true_or_false (int_eq c.lo l.value)) [
      | inl same ↦ (let e : c.lo ≡ l.value = int_eq_same c.lo l.value same in
          ends_step c l l.value l.value c.hi s has has (omega (arith, ints)) inner outer s.high
          (fails_eq l c.hi rel (λ t. apart (e ∙ sym t))))
      | inr other ↦ ends_step c l l.value l.value c.lo s has has (omega (arith, ints)) inner outer s.low
          (fails_eq l c.lo rel (λ t. not_both (int_eq c.lo l.value) (int_eq_from c.lo l.value t) other))
    ]

-- the least value falls away
pub low_step : (c : Cell) (l : Literal) (r : ℤ) → IsSound c → l.rel ≡ Ne → l.value ≡ c.lo → (c.lo ≡ c.hi → ⊥)
    → IsCeiling (holds_in c) (l.value +ℤ pos 1) r → IsStep c l (Change r c.hi (length c.flags))
low_step c l r s rel at apart f =
    let ends : c.lo ≤ℤ c.hi = sound_ends c s in
    let i : IsIn c r = is_in c r f.has in
    let at_least : (l.value +ℤ pos 1) ≤ℤ r = f.at_least in
    ends_step c l r c.hi c.lo s f.has s.high i.high
    (λ x h g. (let low : c.lo ≤ℤ x = (is_in c x h).low in
    let ne : x ≡ l.value → ⊥ = ne_holds l x rel g in
    (f.least x h (omega (arith, ints)), (is_in c x h).high)))
    (λ x h a b. holds_ne l x rel (λ e. absurd (omega (arith, ints))))
    s.low (fails_ne l c.lo rel (sym at))

-- the greatest value falls away
pub high_step : (c : Cell) (l : Literal) (r : ℤ) → IsSound c → l.rel ≡ Ne → l.value ≡ c.hi → (c.lo ≡ c.hi → ⊥)
    → IsFloor (holds_in c) (l.value -ℤ pos 1) r → IsStep c l (Change c.lo r (length c.flags))
high_step c l r s rel at apart f =
    let ends : c.lo ≤ℤ c.hi = sound_ends c s in
    let i : IsIn c r = is_in c r f.has in
    let at_most : r ≤ℤ (l.value -ℤ pos 1) = f.at_most in
    ends_step c l c.lo r c.hi s s.low f.has i.low
    (λ x h g. (let high : x ≤ℤ c.hi = (is_in c x h).high in
    let ne : x ≡ l.value → ⊥ = ne_holds l x rel g in
    ((is_in c x h).low, f.greatest x h (omega (arith, ints)))))
    (λ x h a b. holds_ne l x rel (λ e. absurd (omega (arith, ints))))
    s.high (fails_ne l c.hi rel (sym at))

-- ---- one flag down

-- with the flag down the value is gone, and no other
pub flag_down : (start : Start) (bs : List Bool) (v : ℤ) (k : ℕ) → HasFlags start bs → IsPlace start bs v k
    → (x : ℤ) → is_flagged start (set bs k false) x ≡ (is_flagged start bs x && not (int_eq x v))
flag_down (Span lo hi) bs v k h p x = absurd p
flag_down (Values xs) bs v k h p x =
    let n : length bs ≡ length xs = h.1 in
    let lt : k < length xs = p.0 in
    let reads : get_or xs k (pos 0) ≡ v = p.1 in
    let at : k < length bs = omega arith in
    let gone : get_or (set bs k false) k false ≡ false = get_or-set_same bs k false false at in
    same_test _ _
    (λ t. (let q : Place x xs (set bs k false) = place_of x xs (set bs k false) t in
    let other : q.at ≡ k → ⊥ = λ e. not_both (get_or (set bs k false) k false) (sym (ap (λ (i : ℕ). get_or (set bs k false) i false) e) ∙ q.up) gone in
    let up : get_or bs q.at false ≡ true = sym (get_or-set_other bs k q.at false false other) ∙ q.up in
    and_both (is_kept x xs bs) (not (int_eq x v))
    (kept_from_place x xs bs (record { at = q.at; within = q.within; reads = q.reads; up = up }))
    (ap not (false_eq x v (λ e. other (same_place xs q.at k h.0.rises q.within lt (q.reads ∙ e ∙ sym reads)))))))
    (λ t. (let q : Place x xs bs = place_of x xs bs (and_first (is_kept x xs bs) (not (int_eq x v)) t) in
    let ne : int_eq x v ≡ false = not_true (int_eq x v) (and_second (is_kept x xs bs) (not (int_eq x v)) t) in
    let other : q.at ≡ k → ⊥ = λ e. not_both (int_eq x v) (int_eq_from x v (sym q.reads ∙ ap (λ (i : ℕ). get_or xs i (pos 0)) e ∙ reads)) ne in
    kept_from_place x xs (set bs k false)
    (record { at = q.at; within = q.within; reads = q.reads; up = get_or-set_other bs k q.at false false other ∙ q.up })))

place_up : (start : Start) (bs : List Bool) (v : ℤ) (k : ℕ) → IsPlace start bs v k → get_or bs k false ≡ true
place_up (Values xs) bs v k p = p.2
place_up (Span lo hi) bs v k p = absurd p

-- a value between the ends falls away
pub hole_step : (c : Cell) (l : Literal) (k : ℕ) → IsSound c → l.rel ≡ Ne → holds_in c l.value ≡ true → (l.value ≡ c.lo → ⊥) → (l.value ≡ c.hi → ⊥)
    → IsPlace c.start c.flags l.value k → IsStep c l (Change c.lo c.hi k)
hole_step c l k s rel has not_lo not_hi place =
    let flag : (x : ℤ) → is_flagged c.start (set c.flags k false) x ≡ (is_flagged c.start c.flags x && not (int_eq x l.value)) =
    flag_down c.start c.flags l.value k s.flags place in
    let stays : (x : ℤ) → is_flagged c.start c.flags x ≡ true → (x ≡ l.value → ⊥) → is_flagged c.start (set c.flags k false) x ≡ true =
    λ x f ne. flag x ∙ and_both (is_flagged c.start c.flags x) (not (int_eq x l.value)) f (ap not (false_eq x l.value ne)) in
    let ends : c.lo ≤ℤ c.hi = sound_ends c s in (
      record {
        kept = c.lo;
        kept_has = s.low;
        kept_holds = holds_ne l c.lo rel (λ e. not_lo (sym e));
        lost = l.value;
        lost_has = has;
        lost_fails = fails_ne l l.value rel refl;
        sound = record {
          flags = flags_kept c.start c.flags k false s.flags;
          low = in_is (stepped c c.lo c.hi k) c.lo (record { low = omega (arith, ints); high = ends; flag = stays c.lo (is_in c c.lo s.low).flag (λ e. not_lo (sym e)) });
          high = in_is (stepped c c.lo c.hi k) c.hi (record { low = ends; high = omega (arith, ints); flag = stays c.hi (is_in c c.hi s.high).flag (λ e. not_hi (sym e)) });
        };
        cuts = λ x. same_test _ _
            (λ h. (let i : IsIn (stepped c c.lo c.hi k) x = is_in (stepped c c.lo c.hi k) x h in
            let t : (is_flagged c.start c.flags x && not (int_eq x l.value)) ≡ true = sym (flag x) ∙ i.flag in
            let ne : x ≡ l.value → ⊥ = λ e. not_both (int_eq x l.value) (int_eq_from x l.value e) (not_true _ (and_second (is_flagged c.start c.flags x) _ t)) in
            and_both (holds_in c x) (holds_at l x)
            (in_is c x (record { low = i.low; high = i.high; flag = and_first (is_flagged c.start c.flags x) (not (int_eq x l.value)) t }))
            (holds_ne l x rel ne)))
            (λ h. (let i : IsIn c x = is_in c x (and_first (holds_in c x) (holds_at l x) h) in
            let ne : x ≡ l.value → ⊥ = ne_holds l x rel (and_second (holds_in c x) (holds_at l x) h) in
            in_is (stepped c c.lo c.hi k) x (record { low = i.low; high = i.high; flag = stays x i.flag ne })));
      },
      λ lt. place_up c.start c.flags l.value k place,
    )

-- ---- a whole cell

pub kept_whole : (x : ℤ) (xs : List ℤ) → is_kept x xs (replicate (length xs) true) ≡ is_among x xs
kept_whole x [] = refl
kept_whole x (y ∷ ys) = ap (λ (b : Bool). int_eq x y || b) (kept_whole x ys)

among_le : (xs : List ℤ) (x : ℤ) → Rises xs → is_among x xs ≡ true → (first_of xs ≤ℤ x) × (x ≤ℤ last_of xs)
among_le xs x r h = (first_least xs x r h, last_greatest xs x r h)

whole_list : (xs : List ℤ) → Rises xs → 0 < length xs
    → (x : ℤ) → (int_le (first_of xs) x && (int_le x (last_of xs) && is_kept x xs (replicate (length xs) true))) ≡ is_among x xs
whole_list xs r some x = same_test _ _
    (λ h. sym (kept_whole x xs) ∙ and_second (int_le x (last_of xs)) _ (and_second (int_le (first_of xs) x) _ h))
    (λ h. and_both (int_le (first_of xs) x) _ (true_le (first_of xs) x (first_least xs x r h))
    (and_both (int_le x (last_of xs)) _ (true_le x (last_of xs) (last_greatest xs x r h)) (kept_whole x xs ∙ h)))

and_true : (b : Bool) → (b && true) ≡ b
and_true true = refl
and_true false = refl

-- the cell of a start with its ends and all flags up
whole_made : (start : Start) → IsSane start → HasDomain start
    → IsWhole start (record { start = start; lo = lo_of start; hi = hi_of start; flags = replicate (flag_count start) true })
whole_made (Values xs) sane domain =
    let all : (x : ℤ) → (int_le (first_of xs) x && (int_le x (last_of xs) && is_kept x xs (replicate (length xs) true))) ≡ is_among x xs =
    whole_list xs sane.0 sane.1 in
    record {
      start = refl;
      sound = record {
        flags = (domain, length-replicate (length xs) true);
        low = all (first_of xs) ∙ first_among xs sane.1;
        high = all (last_of xs) ∙ last_among xs sane.1;
      };
      all = all;
    }
whole_made (Span a b) sane domain =
    record {
      start = refl;
      sound = record {
        flags = tt;
        low = and_both (int_le a a) _ (true_le a a (omega (arith, ints))) (and_both (int_le a b) true (true_le a b sane) refl);
        high = and_both (int_le a b) _ (true_le a b sane) (and_both (int_le b b) true (true_le b b (omega (arith, ints))) refl);
      };
      all = λ x. ap (λ (t : Bool). int_le a x && t) (and_true (int_le x b));
    }

pub sane_start : (start : Start) → IsInOrder start → HasDomain start → IsSane start
sane_start (Values xs) order domain = (domain.rises, domain.some)
sane_start (Span a b) order domain = order

pub whole_cell : (start : Start) (lo hi : ℤ) (flags : List Bool) → IsSane start → HasDomain start → lo ≡ lo_of start → hi ≡ hi_of start
    → flags ≡ replicate (flag_count start) true → IsWhole start (record { start = start; lo = lo; hi = hi; flags = flags })
whole_cell start lo hi flags sane domain a b e = rw (a, b, e) (whole_made start sane domain)

-- ---- a cell of a list

flag_in : (start : Start) (xs : List ℤ) (bs : List Bool) (x : ℤ) → start ≡ Values xs → is_flagged start bs x ≡ is_kept x xs bs
flag_in start xs bs x is = ap (λ (s : Start). is_flagged s bs x) is

pub kept_in : (c : Cell) (xs : List ℤ) (x : ℤ) → c.start ≡ Values xs → holds_in c x ≡ true → is_kept x xs c.flags ≡ true
kept_in c xs x is h = sym (flag_in c.start xs c.flags x is) ∙ (is_in c x h).flag

pub flags_in : (start : Start) (bs : List Bool) (xs : List ℤ) → start ≡ Values xs → HasFlags start bs → IsDomain xs × (length bs ≡ length xs)
flags_in start bs xs is h = subst (λ (s : Start). HasFlags s bs) is h

pub floor_in_cell : (c : Cell) (xs : List ℤ) (v r : ℤ) → c.start ≡ Values xs → IsSound c → c.lo ≤ℤ v → v <ℤ c.hi
    → IsFloor (λ x. is_kept x xs c.flags) v r → IsFloor (holds_in c) v r
floor_in_cell c xs v r is s low high f =
    let up : c.lo ≤ℤ r = f.greatest c.lo (kept_in c xs c.lo is s.low) low in
    let most : r ≤ℤ v = f.at_most in
    record {
      has = in_is c r (record { low = up; high = omega (arith, ints); flag = flag_in c.start xs c.flags r is ∙ f.has });
      at_most = most;
      greatest = λ x h le. f.greatest x (kept_in c xs x is h) le;
    }

pub ceiling_in_cell : (c : Cell) (xs : List ℤ) (v r : ℤ) → c.start ≡ Values xs → IsSound c → c.lo <ℤ v → v ≤ℤ c.hi
    → IsCeiling (λ x. is_kept x xs c.flags) v r → IsCeiling (holds_in c) v r
ceiling_in_cell c xs v r is s low high f =
    let up : r ≤ℤ c.hi = f.least c.hi (kept_in c xs c.hi is s.high) high in
    let least : v ≤ℤ r = f.at_least in
    record {
      has = in_is c r (record { low = omega (arith, ints); high = up; flag = flag_in c.start xs c.flags r is ∙ f.has });
      at_least = least;
      least = λ x h le. f.least x (kept_in c xs x is h) le;
    }

pub place_in_cell : (c : Cell) (xs : List ℤ) (v : ℤ) (k : ℕ) → c.start ≡ Values xs → IsSound c → holds_in c v ≡ true → IsRank xs v k
    → IsPlace c.start c.flags v k
place_in_cell c xs v k is s h rank =
    let p : Place v xs c.flags = place_of v xs c.flags (kept_in c xs v is h) in
    let e : p.at ≡ k = place_is_rank xs v k p.at rank p.within p.reads (flags_in c.start c.flags xs is s.flags).0.rises in
    subst (λ (t : Start). IsPlace t c.flags v k) (sym is)
    (subst (λ (i : ℕ). IsPlace (Values xs) c.flags v i) e (p.within, p.reads, p.up))
