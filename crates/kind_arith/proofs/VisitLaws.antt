-- The ends that a set gives a variable.
use Rattle.std.proofs.Common.{◌≡◌, ◌⊎◌, inl, inr, Bool, true, false, not, List, [], ◌∷◌, ℕ, ◌<◌, ℤ, pos, ◌+ℤ◌, ◌-ℤ◌, ◌<ℤ◌, ◌≤ℤ◌, int_lt, refl, sym, subst, ap, arith, ◌∙◌, if◌then◌else◌, ◌++◌, Option, Some, None}
use Rattle.std.proofs.lemmas.Int.{ints}
use Rattle.dom_core.specs.declared.arg.Arg.{Arg}
use Rattle.dom_core.specs.declared.arg.Arg.TheVariants.{Var, Const}
use Rattle.dom_core.specs.declared.literal.Literal.{Literal}
use Rattle.dom_core.specs.declared.literal.Rel.TheVariants.{Le, Ge}
use Rattle.dom_core.specs.declared.set.Set.{Set}
use Rattle.dom_core.specs.declared.var_id.VarId.{VarId}
use Rattle.dom_core.proofs.TestLaws.{le_true, true_le, not_both, not_false}
use Rattle.dom_cells.specs.Box.{kept}
use Rattle.dom_cells.specs.Cell.{lo_of, hi_of, has_of, IsSane, IsCell}
use Rattle.dom_cells.specs.declared.start.Start.{Start}
use Rattle.dom_cells.specs.declared.start.Start.TheVariants.{Span}
use Rattle.dom_cells.proofs.BoxLaws.{sane-cell}
use Rattle.kind_law.specs.Argument.{arg_vars, arg_left}
use Rattle.kind_law.specs.Laws.{Each}
use Rattle.kind_law.specs.Next.{below, above, IsLowEnd, IsHighEnd, HasNoLowEnd, HasNoHighEnd, HasNoEnd, IsEndOf, IsNext}
use Rattle.kind_law.specs.Reason.{IsImplied}
use Rattle.kind_law.specs.Visit.{AllImplied, IsQuiet, IsVisited, cut_box}
use Rattle.kind_law.specs.declared.visited.Visited.{Visited}
use Rattle.kind_law.specs.declared.visited.Visited.TheVariants.{Refuted, Ends}
use Rattle.kind_law.proofs.BoundLaws.{kept_has, kept_holds, in_kept, kept_sane}
use Rattle.kind_arith.specs.InSet.{Restriction, restricted_vars, restriction_refuted}
use Rattle.kind_parts.specs.Set.{set_has, set_meets}
use Rattle.kind_parts.proofs.SetLaws.{Common, meets_common, common_meets, meets_point}
use Rattle.kind_arith.specs.Shared.{IsLeastShared, IsGreatestShared, shared_ends}
use Rattle.kind_arith.proofs.ArgumentLaws.{refuted_var}

-- no value that the variable has left lies in the set
abbrev pub apart : Set → VarId → (ℕ → Start) → Bool
apart s u b = not (set_meets s (b u.0))

pub not_apart : (s : Set) (u : VarId) (b : ℕ → Start) (v : ℤ) → set_has s v ≡ true → has_of (b u.0) v ≡ true → apart s u b ≡ false
not_apart s u b v in_set in_cell = ap not (common_meets s (b u.0) (record { value = v; in_set = in_set; in_cell = in_cell }))

is_apart : (s : Set) (u : VarId) (b : ℕ → Start) → ((x : ℤ) → set_has s x ≡ true → has_of (b u.0) x ≡ true → ⊥) → apart s u b ≡ true
is_apart s u b none =
    not_false (set_meets s (b u.0)) (λ t. (let m : Common s (b u.0) = meets_common s (b u.0) t in none m.value m.in_set m.in_cell))

order : (a b : ℤ) → (a ≤ℤ b) ⊎ (b <ℤ a)
order a b = grind (arith, ints)

-- ---- ends that are implied

low_end : (s : Set) (u : VarId) (b : ℕ → Start) (v : ℤ) → IsSane (b u.0) → IsLeastShared s (b u.0) v → lo_of (b u.0) <ℤ v → IsLowEnd (apart s u) b u v
low_end s u b v sane e lt = record {
  low = lt;
  high = (sane-cell (b u.0) sane).high v e.in_cell;
  refutes = is_apart s u (kept b (below u v)) (λ x i c.
      (let from : v ≤ℤ x = e.least x i (kept_has b (below u v) u.0 x refl c) in
      let under : x ≤ℤ (v -ℤ pos 1) = le_true x (v -ℤ pos 1) (kept_holds b (below u v) x refl c) in
      absurd (omega (arith, ints))));
}

high_end : (s : Set) (u : VarId) (b : ℕ → Start) (v : ℤ) → IsSane (b u.0) → IsGreatestShared s (b u.0) v → v <ℤ hi_of (b u.0) → IsHighEnd (apart s u) b u v
high_end s u b v sane e lt = record {
  low = (sane-cell (b u.0) sane).low v e.in_cell;
  high = lt;
  refutes = is_apart s u (kept b (above u v)) (λ x i c.
      (let to : x ≤ℤ v = e.greatest x i (kept_has b (above u v) u.0 x refl c) in
      let over : (v +ℤ pos 1) ≤ℤ x = le_true (v +ℤ pos 1) x (kept_holds b (above u v) x refl c) in
      absurd (omega (arith, ints))));
}

-- a lower end lies at most at a value of the cell that lies in the set
low_at_most : (s : Set) (u : VarId) (b : ℕ → Start) (v w : ℤ) → set_has s v ≡ true → has_of (b u.0) v ≡ true → IsLowEnd (apart s u) b u w → w ≤ℤ v
low_at_most s u b v w in_set in_cell f = elim (order w v) [
  | inl le ↦ le
  | inr gt ↦ absurd (not_both (apart s u (kept b (below u w))) f.refutes
      (not_apart s u (kept b (below u w)) v in_set (in_kept b (below u w) u.0 v refl in_cell (λ e. true_le v (w -ℤ pos 1) (omega (arith, ints))))))
]

high_at_least : (s : Set) (u : VarId) (b : ℕ → Start) (v w : ℤ) → set_has s v ≡ true → has_of (b u.0) v ≡ true → IsHighEnd (apart s u) b u w → v ≤ℤ w
high_at_least s u b v w in_set in_cell f = elim (order v w) [
  | inl le ↦ le
  | inr gt ↦ absurd (not_both (apart s u (kept b (above u w))) f.refutes
      (not_apart s u (kept b (above u w)) v in_set (in_kept b (above u w) u.0 v refl in_cell (λ e. true_le (w +ℤ pos 1) v (omega (arith, ints))))))
]

no_low_end : (s : Set) (u : VarId) (b : ℕ → Start) (v : ℤ) → set_has s v ≡ true → has_of (b u.0) v ≡ true → v ≤ℤ lo_of (b u.0) → HasNoLowEnd (apart s u) b u
no_low_end s u b v in_set in_cell at w f =
    let low : lo_of (b u.0) <ℤ w = f.low in
    let most : w ≤ℤ v = low_at_most s u b v w in_set in_cell f in
    omega (arith, ints)

no_high_end : (s : Set) (u : VarId) (b : ℕ → Start) (v : ℤ) → set_has s v ≡ true → has_of (b u.0) v ≡ true → hi_of (b u.0) ≤ℤ v → HasNoHighEnd (apart s u) b u
no_high_end s u b v in_set in_cell at w f =
    let high : w <ℤ hi_of (b u.0) = f.high in
    let least : v ≤ℤ w = high_at_least s u b v w in_set in_cell f in
    omega (arith, ints)

pub low_is_end : (s : Set) (u : VarId) (b : ℕ → Start) (v : ℤ) → IsSane (b u.0) → IsLeastShared s (b u.0) v → lo_of (b u.0) <ℤ v → IsEndOf (apart s u) b u Ge v
low_is_end s u b v sane e lt = (low_end s u b v sane e lt, λ w f. low_at_most s u b v w e.in_set e.in_cell f)

pub high_is_end : (s : Set) (u : VarId) (b : ℕ → Start) (lo hi : ℤ) → IsSane (b u.0) → IsLeastShared s (b u.0) lo → IsGreatestShared s (b u.0) hi
    → lo ≤ℤ lo_of (b u.0) → hi <ℤ hi_of (b u.0) → IsEndOf (apart s u) b u Le hi
high_is_end s u b lo hi sane l h at lt = (
  high_end s u b hi sane h lt,
  λ w f. high_at_least s u b hi w h.in_set h.in_cell f,
  no_low_end s u b lo l.in_set l.in_cell at,
)

pub no_end : (s : Set) (u : VarId) (b : ℕ → Start) (lo hi : ℤ) → IsLeastShared s (b u.0) lo → IsGreatestShared s (b u.0) hi
    → lo ≤ℤ lo_of (b u.0) → hi_of (b u.0) ≤ℤ hi → HasNoEnd (apart s u) b u
no_end s u b lo hi l h low high = record {
  low = no_low_end s u b lo l.in_set l.in_cell low;
  high = no_high_end s u b hi h.in_set h.in_cell high;
}

low_implied : (s : Set) (u : VarId) (b : ℕ → Start) (v : ℤ) → IsSane (b u.0) → IsLeastShared s (b u.0) v → lo_of (b u.0) <ℤ v
    → IsImplied (apart s u) b (record { var = u; rel = Ge; value = v })
low_implied s u b v sane e lt = record {
  end_is = refl;
  possible = record { value = v; has = e.in_cell; holds = true_le v v (omega (arith, ints)) };
  open_still = record { value = lo_of (b u.0); has = (sane-cell (b u.0) sane).least; holds = true_le (lo_of (b u.0)) (v -ℤ pos 1) (omega (arith, ints)) };
  refutes = (low_end s u b v sane e lt).refutes;
}

high_implied : (s : Set) (u : VarId) (b : ℕ → Start) (v : ℤ) → IsSane (b u.0) → IsGreatestShared s (b u.0) v → v <ℤ hi_of (b u.0)
    → IsImplied (apart s u) b (record { var = u; rel = Le; value = v })
high_implied s u b v sane e lt = record {
  end_is = refl;
  possible = record { value = v; has = e.in_cell; holds = true_le v v (omega (arith, ints)) };
  open_still = record { value = hi_of (b u.0); has = (sane-cell (b u.0) sane).greatest; holds = true_le (v +ℤ pos 1) (hi_of (b u.0)) (omega (arith, ints)) };
  refutes = (high_end s u b v sane e lt).refutes;
}

-- ---- what a visit writes

-- the ends that are written, by whether the cell reaches beyond them
abbrev written : Bool → Bool → VarId → ℤ → ℤ → List Literal
written low high u lo hi = (if low then record { var = u; rel = Ge; value = lo } ∷ [] else []) ++ (if high then record { var = u; rel = Le; value = hi } ∷ [] else [])

all_implied : (low high : Bool) (s : Set) (u : VarId) (b : ℕ → Start) (n : ℕ) (lo hi : ℤ) → u.0 < n
    → (low ≡ true → IsImplied (apart s u) b (record { var = u; rel = Ge; value = lo }))
    → (high ≡ true → IsImplied (apart s u) b (record { var = u; rel = Le; value = hi }))
    → AllImplied (apart s u) b n (written low high u lo hi)
all_implied true true s u b n lo hi lt l h = (lt, l refl, (lt, h refl, tt))
all_implied true false s u b n lo hi lt l h = (lt, l refl, tt)
all_implied false true s u b n lo hi lt l h = (lt, h refl, tt)
all_implied false false s u b n lo hi lt l h = tt

-- both values lie in the cell and in the set, and the cell doesn't reach beyond them where that is told
record Spans (s : Set) (c : Start) (lo hi : ℤ) (low high : Bool) : Type 0 where
  sane : IsSane c
  order : lo ≤ℤ hi
  low_set : set_has s lo ≡ true
  high_set : set_has s hi ≡ true
  low_cell : has_of c lo ≡ true
  high_cell : has_of c hi ≡ true
  from : low ≡ true → (x : ℤ) → has_of c x ≡ true → lo ≤ℤ x
  to : high ≡ true → (x : ℤ) → has_of c x ≡ true → x ≤ℤ hi

spans : (s : Set) (c : Start) (lo hi : ℤ) → IsSane c → IsLeastShared s c lo → IsGreatestShared s c hi
    → Spans s c lo hi (not (int_lt (lo_of c) lo)) (not (int_lt hi (hi_of c)))
spans s c lo hi sane l h =
    let k : IsCell c = sane-cell c sane in
    record {
      sane = sane;
      order = l.least hi h.in_set h.in_cell;
      low_set = l.in_set;
      high_set = h.in_set;
      low_cell = l.in_cell;
      high_cell = h.in_cell;
      from = λ t x has. (let first : lo_of c ≤ℤ x = k.low x has in grind (arith, ints));
      to = λ t x has. (let last : x ≤ℤ hi_of c = k.high x has in grind (arith, ints));
    }

from_low : (s : Set) (u : VarId) (b : ℕ → Start) (lo hi : ℤ) (low high : Bool) → Spans s (b u.0) lo hi low high
    → Spans s (kept b (record { var = u; rel = Ge; value = lo }) u.0) lo hi true high
from_low s u b lo hi low high p =
    let l : Literal = record { var = u; rel = Ge; value = lo } in
    let own : lo ≤ℤ lo = omega (arith, ints) in
    record {
      sane = kept_sane b l u.0 lo refl p.low_cell (true_le lo lo own) p.sane;
      order = p.order;
      low_set = p.low_set;
      high_set = p.high_set;
      low_cell = in_kept b l u.0 lo refl p.low_cell (λ e. true_le lo lo own);
      high_cell = in_kept b l u.0 hi refl p.high_cell (λ e. true_le lo hi p.order);
      from = λ t x has. le_true lo x (kept_holds b l x refl has);
      to = λ t x has. p.to t x (kept_has b l u.0 x refl has);
    }

to_high : (s : Set) (u : VarId) (b : ℕ → Start) (lo hi : ℤ) (low high : Bool) → Spans s (b u.0) lo hi low high
    → Spans s (kept b (record { var = u; rel = Le; value = hi }) u.0) lo hi low true
to_high s u b lo hi low high p =
    let l : Literal = record { var = u; rel = Le; value = hi } in
    let own : hi ≤ℤ hi = omega (arith, ints) in
    record {
      sane = kept_sane b l u.0 hi refl p.high_cell (true_le hi hi own) p.sane;
      order = p.order;
      low_set = p.low_set;
      high_set = p.high_set;
      low_cell = in_kept b l u.0 lo refl p.low_cell (λ e. true_le lo hi p.order);
      high_cell = in_kept b l u.0 hi refl p.high_cell (λ e. true_le hi hi own);
      from = λ t x has. p.from t x (kept_has b l u.0 x refl has);
      to = λ t x has. le_true x hi (kept_holds b l x refl has);
    }

quiet : (s : Set) (u : VarId) (b : ℕ → Start) (lo hi : ℤ) → Spans s (b u.0) lo hi true true → IsQuiet (apart s u) (u ∷ []) b
quiet s u b lo hi p =
    let k : IsCell (b u.0) = sane-cell (b u.0) p.sane in
    record {
      stands = not_apart s u b lo p.low_set p.low_cell;
      ends = (
        record {
          low = no_low_end s u b lo p.low_set p.low_cell (p.from refl (lo_of (b u.0)) k.least);
          high = no_high_end s u b hi p.high_set p.high_cell (p.to refl (hi_of (b u.0)) k.greatest);
        },
        tt,
      );
    }

-- once the ends are applied, no other follows
quiet_after : (low high : Bool) (s : Set) (u : VarId) (b : ℕ → Start) (lo hi : ℤ) → Spans s (b u.0) lo hi (not low) (not high)
    → IsQuiet (apart s u) (u ∷ []) (cut_box b (written low high u lo hi))
quiet_after true true s u b lo hi p =
    let l : Literal = record { var = u; rel = Ge; value = lo } in
    quiet s u (kept (kept b l) (record { var = u; rel = Le; value = hi })) lo hi (to_high s u (kept b l) lo hi true false (from_low s u b lo hi false false p))
quiet_after true false s u b lo hi p =
    quiet s u (kept b (record { var = u; rel = Ge; value = lo })) lo hi (from_low s u b lo hi false true p)
quiet_after false true s u b lo hi p =
    quiet s u (kept b (record { var = u; rel = Le; value = hi })) lo hi (to_high s u b lo hi true false p)
quiet_after false false s u b lo hi p = quiet s u b lo hi p

lt_true : (a b : ℤ) → int_lt a b ≡ true → a <ℤ b
lt_true a b h = grind (arith, ints)

pub ends_visited : (s : Set) (u : VarId) (b : ℕ → Start) (n : ℕ) (lo hi : ℤ) → u.0 < n → IsSane (b u.0) → IsLeastShared s (b u.0) lo
    → IsGreatestShared s (b u.0) hi → IsVisited (apart s u) (u ∷ []) b n (Ends false) (shared_ends u (b u.0) lo hi)
ends_visited s u b n lo hi lt sane l h =
    let after : IsQuiet (apart s u) (u ∷ []) (cut_box b (shared_ends u (b u.0) lo hi)) =
    quiet_after (int_lt (lo_of (b u.0)) lo) (int_lt hi (hi_of (b u.0))) s u b lo hi (spans s (b u.0) lo hi sane l h) in
    record {
      stands = not_apart s u b lo l.in_set l.in_cell;
      ends = record {
        implied =
            all_implied (int_lt (lo_of (b u.0)) lo) (int_lt hi (hi_of (b u.0))) s u b n lo hi lt
            (λ t. low_implied s u b lo sane l (lt_true (lo_of (b u.0)) lo t)) (λ t. high_implied s u b hi sane h (lt_true hi (hi_of (b u.0)) t));
        none = λ e. subst (λ (ls : List Literal). Each (HasNoEnd (apart s u) (cut_box b ls)) (u ∷ [])) e after.ends;
      };
      last = λ t. after;
    }

-- ---- restrictions of a variable

var_visited : (k : Restriction) (u : VarId) (b : ℕ → Start) (n : ℕ) (v : Visited) (ls : List Literal) → k.arg ≡ Var u
    → IsVisited (apart k.set u) (u ∷ []) b n v ls → IsVisited (restriction_refuted k) (restricted_vars k) b n v ls
var_visited k u b n v ls is h = subst (λ (x : Arg). IsVisited (λ c. not (set_meets k.set (arg_left c x))) (arg_vars x) b n v ls) (sym is) h

var_next : (k : Restriction) (u : VarId) (b : ℕ → Start) (r : Option Literal) → k.arg ≡ Var u → IsNext (apart k.set u) (u ∷ []) b r
    → IsNext (restriction_refuted k) (restricted_vars k) b r
var_next k u b r is h = subst (λ (x : Arg). IsNext (λ c. not (set_meets k.set (arg_left c x))) (arg_vars x) b r) (sym is) h

pub none_visited : (k : Restriction) (u : VarId) (b : ℕ → Start) → k.arg ≡ Var u → set_meets k.set (b u.0) ≡ false → restriction_refuted k b ≡ true
none_visited k u b is h = sym (refuted_var k b u is) ∙ ap not h

pub both_visited : (k : Restriction) (u : VarId) (b : ℕ → Start) (n : ℕ) (lo hi : ℤ) (ls : List Literal) → k.arg ≡ Var u → u.0 < n → IsSane (b u.0)
    → IsLeastShared k.set (b u.0) lo → IsGreatestShared k.set (b u.0) hi → ls ≡ shared_ends u (b u.0) lo hi
    → IsVisited (restriction_refuted k) (restricted_vars k) b n (Ends false) ls
both_visited k u b n lo hi ls is lt sane l h e =
    var_visited k u b n (Ends false) ls is
    (subst (IsVisited (apart k.set u) (u ∷ []) b n (Ends false)) (sym e) (ends_visited k.set u b n lo hi lt sane l h))

pub never_none : (k : Restriction) (u : VarId) (b : ℕ → Start) → k.arg ≡ Var u → restriction_refuted k b ≡ false → set_meets k.set (b u.0) ≡ false → ⊥
never_none k u b is quiet h = not_both (restriction_refuted k b) (none_visited k u b is h) quiet

pub next_low : (k : Restriction) (u : VarId) (b : ℕ → Start) (lo : ℤ) (l : Literal) → k.arg ≡ Var u → IsSane (b u.0) → IsLeastShared k.set (b u.0) lo
    → lo_of (b u.0) <ℤ lo → l ≡ record { var = u; rel = Ge; value = lo } → IsNext (restriction_refuted k) (restricted_vars k) b (Some l)
next_low k u b lo l is sane e lt same =
    var_next k u b (Some l) is
    (subst (λ (m : Literal). IsNext (apart k.set u) (u ∷ []) b (Some m)) (sym same) (0, omega arith, refl, tt, low_is_end k.set u b lo sane e lt))

pub next_high : (k : Restriction) (u : VarId) (b : ℕ → Start) (lo hi : ℤ) (l : Literal) → k.arg ≡ Var u → IsSane (b u.0) → IsLeastShared k.set (b u.0) lo
    → IsGreatestShared k.set (b u.0) hi → lo ≤ℤ lo_of (b u.0) → hi <ℤ hi_of (b u.0) → l ≡ record { var = u; rel = Le; value = hi }
    → IsNext (restriction_refuted k) (restricted_vars k) b (Some l)
next_high k u b lo hi l is sane e h at lt same =
    var_next k u b (Some l) is
    (subst (λ (m : Literal). IsNext (apart k.set u) (u ∷ []) b (Some m)) (sym same) (0, omega arith, refl, tt, high_is_end k.set u b lo hi sane e h at lt))

pub next_none : (k : Restriction) (u : VarId) (b : ℕ → Start) (lo hi : ℤ) → k.arg ≡ Var u → IsLeastShared k.set (b u.0) lo → IsGreatestShared k.set (b u.0) hi
    → lo ≤ℤ lo_of (b u.0) → hi_of (b u.0) ≤ℤ hi → IsNext (restriction_refuted k) (restricted_vars k) b None
next_none k u b lo hi is e h low high = var_next k u b None is (no_end k.set u b lo hi e h low high, tt)

-- ---- restrictions of a constant

at_constant : (s : Set) (v : ℤ) (t : Bool) (b : ℕ → Start) (n : ℕ) → set_has s v ≡ t
    → IsVisited (λ c. not (set_meets s (Span v v))) [] b n (if t then Ends false else Refuted) []
at_constant s v true b n h =
    let stands : not (set_meets s (Span v v)) ≡ false = ap not (meets_point s v ∙ h) in
    record {
      stands = stands;
      ends = record { implied = tt; none = λ e. tt };
      last = λ e. (let q : IsQuiet (λ c. not (set_meets s (Span v v))) [] (cut_box b []) = record { stands = stands; ends = tt } in q);
    }
at_constant s v false b n h = (ap not (meets_point s v ∙ h), refl)

pub constant_visited : (k : Restriction) (v : ℤ) (b : ℕ → Start) (n : ℕ) (r : Visited) (ls : List Literal) → k.arg ≡ Const v
    → r ≡ (if set_has k.set v then Ends false else Refuted) → ls ≡ [] → IsVisited (restriction_refuted k) (restricted_vars k) b n r ls
constant_visited k v b n r ls is e empty =
    subst (λ (w : Visited). IsVisited (restriction_refuted k) (restricted_vars k) b n w ls) (sym e)
    (subst (IsVisited (restriction_refuted k) (restricted_vars k) b n (if set_has k.set v then Ends false else Refuted)) (sym empty)
    (subst (λ (x : Arg). IsVisited (λ c. not (set_meets k.set (arg_left c x))) (arg_vars x) b n (if set_has k.set v then Ends false else Refuted) []) (sym is)
    (at_constant k.set v (set_has k.set v) b n refl)))

pub constant_next : (k : Restriction) (v : ℤ) (b : ℕ → Start) → k.arg ≡ Const v → IsNext (restriction_refuted k) (restricted_vars k) b None
constant_next k v b is = subst (λ (x : Arg). IsNext (λ c. not (set_meets k.set (arg_left c x))) (arg_vars x) b None) (sym is) tt
