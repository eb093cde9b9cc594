-- What a sum's reason leaves is refuted.
use Rattle.std.proofs.Common.{◌≡◌, ℕ, zero, suc, ◌+◌, ◌*◌, ◌<◌, ◌≤◌, Bool, true, false, not, List, [], ◌∷◌, ◌++◌, length, drop, get_or, ℤ, pos, negsuc, ◌+ℤ◌, ◌-ℤ◌, ◌*ℤ◌, ◌<ℤ◌, ◌≤ℤ◌, int_lt, if◌then◌else◌, unsigned_abs, refl, sym, ◌∙◌, ap, subst, arith, inl, inr, Option}
use Rattle.std.proofs.Math.IntN.{zero-*ℤ}
use Rattle.std.proofs.lemmas.Int.{ints}
use Rattle.std.proofs.lemmas.Grind.{common_steps}
use Rattle.std.proofs.lemmas.List.{drop_more}
use Rattle.std.specs.Option.{option_to_list}
use Rattle.dom_core.specs.Ends.{Ends, sum_ends, scaled_ends}
use Rattle.dom_core.specs.declared.arg.Arg.{Arg}
use Rattle.dom_core.specs.declared.arg.Arg.TheVariants.{Var, Const}
use Rattle.dom_core.specs.declared.literal.Literal.{Literal}
use Rattle.dom_core.specs.declared.var_id.VarId.{VarId}
use Rattle.dom_core.proofs.ProductLaws.{lt_true, lt_false, pos_suc-times, neg_one-times, neg_suc-times, times_up, times_down}
use Rattle.dom_core.proofs.TestLaws.{true_or_false}
use Rattle.dom_cells.specs.Box.{Box, IsBox, cell_of, against}
use Rattle.dom_cells.specs.Cell.{IsCell, lo_of, hi_of, ends_of}
use Rattle.dom_cells.specs.declared.start.Start.{Start}
use Rattle.dom_cells.proofs.BoxLaws.{sane-cell}
use Rattle.kind_law.specs.Laws.{Each, AllBelow, hulls}
use Rattle.kind_law.specs.Reason.{IsCause, IsRead, IsReason, IsOpen, AllFine, AddsFine, CoversEnd, IsNear, IsReach, asked, IsLeft}
use Rattle.kind_law.specs.declared.side.Side.{Side}
use Rattle.kind_law.specs.declared.side.Side.TheVariants.{Low, High}
use Rattle.kind_law.proofs.EachLaws.{each_map}
use Rattle.kind_law.proofs.EndLaws.{IsAgainst, against_is, cause_open, cause_refutes, end_reason, left_fewer}
use Rattle.kind_sum.specs.Explained.{edge, edge_side, AreLeft, EdgeNear, Pays, PaysAll, IsExcess}
use Rattle.kind_sum.specs.SumRelation.{SumRelation, sum_vars, sum_refuted}
use Rattle.kind_parts.specs.Relation.{refuted_by}
use Rattle.kind_law.specs.Argument.{ArgHas, arg_ends}
use Rattle.kind_sum.specs.Sum.{total, vars_of}
use Rattle.kind_law.proofs.ArgumentLaws.{each_listed}
use Rattle.kind_sum.specs.SumLaws.{arg_has, times_difference}
use Rattle.dom_core.specs.declared.relation.Relation.{Relation}
use Rattle.kind_sum.specs.declared.explained.Excess.{Excess}
use Rattle.kind_sum.specs.declared.term.Term.{Term}

-- ---- prices

suc_product : (n g : ℕ) → suc n * g ≡ n * g + g
suc_product n g = grind (arith, common_steps)

no_product : (g : ℕ) → 0 * g ≡ 0
no_product g = grind (arith, common_steps)

pos_product : (n g : ℕ) → pos (n * g) ≡ (pos n *ℤ pos g)
pos_product zero g =
    let none : (pos 0 *ℤ pos g) ≡ pos 0 = zero-*ℤ (pos g) in
    let nothing : 0 * g ≡ 0 = no_product g in
    omega (arith, ints)
pos_product (suc n) g =
    let rest : pos (n * g) ≡ (pos n *ℤ pos g) = pos_product n g in
    let more : (pos (suc n) *ℤ pos g) ≡ ((pos n *ℤ pos g) +ℤ pos g) = pos_suc-times n (pos g) in
    let whole : suc n * g ≡ n * g + g = suc_product n g in
    omega (arith, ints)

neg_product : (n : ℕ) (a : ℤ) → (negsuc n *ℤ a) ≡ (pos 0 -ℤ (pos (suc n) *ℤ a))
neg_product zero a =
    let one : (negsuc zero *ℤ a) ≡ (pos 0 -ℤ a) = neg_one-times a in
    let none : (pos 0 *ℤ a) ≡ pos 0 = zero-*ℤ a in
    let more : (pos 1 *ℤ a) ≡ ((pos 0 *ℤ a) +ℤ a) = pos_suc-times 0 a in
    omega (arith, ints)
neg_product (suc n) a =
    let rest : (negsuc n *ℤ a) ≡ (pos 0 -ℤ (pos (suc n) *ℤ a)) = neg_product n a in
    let less : (negsuc (suc n) *ℤ a) ≡ ((negsuc n *ℤ a) -ℤ a) = neg_suc-times n a in
    let more : (pos (suc (suc n)) *ℤ a) ≡ ((pos (suc n) *ℤ a) +ℤ a) = pos_suc-times (suc n) a in
    omega (arith, ints)

price_up : (c : ℤ) (g : ℕ) → pos 0 ≤ℤ c → pos (unsigned_abs c * g) ≡ (c *ℤ pos g)
price_up (pos n) g h = pos_product n g
price_up (negsuc n) g h = absurd (omega (arith, ints))

price_down : (c : ℤ) (g : ℕ) → c <ℤ pos 0 → pos (unsigned_abs c * g) ≡ (pos 0 -ℤ (c *ℤ pos g))
price_down (pos n) g h = absurd (omega (arith, ints))
price_down (negsuc n) g h =
    let size : pos (suc n * g) ≡ (pos (suc n) *ℤ pos g) = pos_product (suc n) g in
    let turned : (negsuc n *ℤ pos g) ≡ (pos 0 -ℤ (pos (suc n) *ℤ pos g)) = neg_product n (pos g) in
    omega (arith, ints)

-- ---- one multiple

moved_up : (c a b g : ℤ) → pos 0 ≤ℤ c → (a -ℤ g) ≤ℤ b → ((c *ℤ a) -ℤ (c *ℤ g)) ≤ℤ (c *ℤ b)
moved_up c a b g sign h =
    let e : (c *ℤ (a -ℤ g)) ≡ ((c *ℤ a) -ℤ (c *ℤ g)) = times_difference c a g in
    let m : (c *ℤ (a -ℤ g)) ≤ℤ (c *ℤ b) = times_up c (a -ℤ g) b sign h in
    omega (arith, ints)

moved_down : (c a b g : ℤ) → c <ℤ pos 0 → (a -ℤ g) ≤ℤ b → (c *ℤ b) ≤ℤ ((c *ℤ a) -ℤ (c *ℤ g))
moved_down c a b g sign h =
    let e : (c *ℤ (a -ℤ g)) ≡ ((c *ℤ a) -ℤ (c *ℤ g)) = times_difference c a g in
    let m : (c *ℤ b) ≤ℤ (c *ℤ (a -ℤ g)) = times_down c (a -ℤ g) b sign h in
    omega (arith, ints)

less_left : (a b g : ℤ) → b ≤ℤ (a +ℤ g) → (b -ℤ g) ≤ℤ a
less_left a b g h = omega (arith, ints)

-- the edge of a multiple, by the sign of its factor
edge_up : (turned : Bool) (c : ℤ) (e : Ends) → int_lt c (pos 0) ≡ false → edge turned (scaled_ends c e) ≡ (if turned then pos 0 -ℤ (c *ℤ e.hi) else c *ℤ e.lo)
edge_up true c e h = ap (λ (b : Bool). pos 0 -ℤ (if b then c *ℤ e.lo else c *ℤ e.hi)) h
edge_up false c e h = ap (λ (b : Bool). if b then c *ℤ e.hi else c *ℤ e.lo) h

edge_down : (turned : Bool) (c : ℤ) (e : Ends) → int_lt c (pos 0) ≡ true → edge turned (scaled_ends c e) ≡ (if turned then pos 0 -ℤ (c *ℤ e.lo) else c *ℤ e.hi)
edge_down true c e h = ap (λ (b : Bool). pos 0 -ℤ (if b then c *ℤ e.lo else c *ℤ e.hi)) h
edge_down false c e h = ap (λ (b : Bool). if b then c *ℤ e.hi else c *ℤ e.lo) h

-- the side of the edge of a multiple by a factor that is negative, or not
abbrev pub low_if : Bool → Side
low_if true = Low
low_if false = High

side_down : (turned : Bool) (c : ℤ) → int_lt c (pos 0) ≡ true → edge_side turned c ≡ low_if turned
side_down true c h = ap (λ (b : Bool). if b then Low else High) h
side_down false c h = ap (λ (b : Bool). if b then High else Low) h

side_up : (turned : Bool) (c : ℤ) → int_lt c (pos 0) ≡ false → edge_side turned c ≡ low_if (not turned)
side_up true c h = ap (λ (b : Bool). if b then Low else High) h
side_up false c h = ap (λ (b : Bool). if b then High else Low) h

pays_up : (turned : Bool) (c : ℤ) (g : ℕ) (a e : Ends) → int_lt c (pos 0) ≡ false
    → EdgeNear (low_if (not turned)) a e (pos g)
    → (edge turned (scaled_ends c a) -ℤ pos (unsigned_abs c * g)) ≤ℤ edge turned (scaled_ends c e)
pays_up true c g a e sign near =
    let up : pos 0 ≤ℤ c = lt_false c (pos 0) sign in
    let price : pos (unsigned_abs c * g) ≡ (c *ℤ pos g) = price_up c g up in
    let whole : edge true (scaled_ends c a) ≡ (pos 0 -ℤ (c *ℤ a.hi)) = edge_up true c a sign in
    let left : edge true (scaled_ends c e) ≡ (pos 0 -ℤ (c *ℤ e.hi)) = edge_up true c e sign in
    let moved : ((c *ℤ e.hi) -ℤ (c *ℤ pos g)) ≤ℤ (c *ℤ a.hi) = moved_up c e.hi a.hi (pos g) up (less_left a.hi e.hi (pos g) near) in
    omega (arith, ints)
pays_up false c g a e sign near =
    let up : pos 0 ≤ℤ c = lt_false c (pos 0) sign in
    let price : pos (unsigned_abs c * g) ≡ (c *ℤ pos g) = price_up c g up in
    let whole : edge false (scaled_ends c a) ≡ (c *ℤ a.lo) = edge_up false c a sign in
    let left : edge false (scaled_ends c e) ≡ (c *ℤ e.lo) = edge_up false c e sign in
    let moved : ((c *ℤ a.lo) -ℤ (c *ℤ pos g)) ≤ℤ (c *ℤ e.lo) = moved_up c a.lo e.lo (pos g) up near in
    omega (arith, ints)

pays_down : (turned : Bool) (c : ℤ) (g : ℕ) (a e : Ends) → int_lt c (pos 0) ≡ true
    → EdgeNear (low_if turned) a e (pos g)
    → (edge turned (scaled_ends c a) -ℤ pos (unsigned_abs c * g)) ≤ℤ edge turned (scaled_ends c e)
pays_down true c g a e sign near =
    let down : c <ℤ pos 0 = lt_true c (pos 0) sign in
    let price : pos (unsigned_abs c * g) ≡ (pos 0 -ℤ (c *ℤ pos g)) = price_down c g down in
    let whole : edge true (scaled_ends c a) ≡ (pos 0 -ℤ (c *ℤ a.lo)) = edge_down true c a sign in
    let left : edge true (scaled_ends c e) ≡ (pos 0 -ℤ (c *ℤ e.lo)) = edge_down true c e sign in
    let moved : (c *ℤ e.lo) ≤ℤ ((c *ℤ a.lo) -ℤ (c *ℤ pos g)) = moved_down c a.lo e.lo (pos g) down near in
    omega (arith, ints)
pays_down false c g a e sign near =
    let down : c <ℤ pos 0 = lt_true c (pos 0) sign in
    let price : pos (unsigned_abs c * g) ≡ (pos 0 -ℤ (c *ℤ pos g)) = price_down c g down in
    let whole : edge false (scaled_ends c a) ≡ (c *ℤ a.hi) = edge_down false c a sign in
    let left : edge false (scaled_ends c e) ≡ (c *ℤ e.hi) = edge_down false c e sign in
    let moved : (c *ℤ a.hi) ≤ℤ ((c *ℤ e.hi) -ℤ (c *ℤ pos g)) = moved_down c e.hi a.hi (pos g) down (less_left a.hi e.hi (pos g) near) in
    omega (arith, ints)

-- ---- one term

pub left_near : (side : Side) (m : Box) (implied : Option Literal) (ls : List Literal) (v : ℕ) (gap : ℤ) (e : Ends)
    → ((x : ℤ) → IsLeft m implied ls v x → IsNear side m implied v gap x) → AreLeft m implied ls v e → EdgeNear side (hulls (asked m implied) v) e gap
left_near Low m implied ls v gap e near left = near e.lo left.low
left_near High m implied ls v gap e near left = near e.hi left.high

-- a variable whose values lie at most so far beyond the end costs so much
pub near_pays : (turned : Bool) (m : Box) (implied : Option Literal) (ls : List Literal) (c : ℤ) (u : VarId) (g : ℕ)
    → ((x : ℤ) → IsLeft m implied ls u.0 x → IsNear (edge_side turned c) m implied u.0 (pos g) x)
    → Pays turned m implied ls (record { coef = c; arg = Var u }) (pos (unsigned_abs c * g))
near_pays turned m implied ls c u g near s left =
    let beyond : EdgeNear (edge_side turned c) (hulls (asked m implied) u.0) (s u.0) (pos g) = left_near (edge_side turned c) m implied ls u.0 (pos g) (s u.0) near left in
    elim (true_or_false (int_lt c (pos 0))) [
      | inl down ↦ pays_down turned c g (hulls (asked m implied) u.0) (s u.0) down
          (subst (λ (q : Side). EdgeNear q (hulls (asked m implied) u.0) (s u.0) (pos g)) (side_down turned c down) beyond)
      | inr up ↦ pays_up turned c g (hulls (asked m implied) u.0) (s u.0) up
          (subst (λ (q : Side). EdgeNear q (hulls (asked m implied) u.0) (s u.0) (pos g)) (side_up turned c up) beyond)
    ]

none_times : (n : ℕ) → n * 0 ≡ 0
none_times n = grind (arith, common_steps)

-- a variable whose end is told costs nothing
pub told_pays : (turned : Bool) (m : Box) (implied : Option Literal) (ls : List Literal) (c : ℤ) (u : VarId) (slack : ℕ)
    → CoversEnd (edge_side turned c) m implied ls u.0 → Pays turned m implied ls (record { coef = c; arg = Var u }) (pos slack -ℤ pos slack)
told_pays turned m implied ls c u slack told s left =
    let free : (edge turned (scaled_ends c (hulls (asked m implied) u.0)) -ℤ pos (unsigned_abs c * 0)) ≤ℤ edge turned (scaled_ends c (s u.0)) =
    near_pays turned m implied ls c u 0 told s left in
    let none : unsigned_abs c * 0 ≡ 0 = none_times (unsigned_abs c) in
    omega (arith, ints)

-- a variable of which nothing is told costs the price of its reach
pub reach_pays : (turned : Bool) (m : Box) (implied : Option Literal) (ls : List Literal) (c : ℤ) (u : VarId) (g price slack left : ℕ)
    → IsReach (edge_side turned c) m implied u.0 (pos g) → price ≡ unsigned_abs c * g → left + price ≡ slack
    → Pays turned m implied ls (record { coef = c; arg = Var u }) (pos slack -ℤ pos left)
reach_pays turned m implied ls c u g price slack left reach e f s values =
    let paid : (edge turned (scaled_ends c (hulls (asked m implied) u.0)) -ℤ pos (unsigned_abs c * g)) ≤ℤ edge turned (scaled_ends c (s u.0)) =
    near_pays turned m implied ls c u g (reach ls) s values in
    omega (arith, ints)

pub constant_pays : (turned : Bool) (m : Box) (implied : Option Literal) (ls : List Literal) (c v : ℤ) (slack : ℕ)
    → Pays turned m implied ls (record { coef = c; arg = Const v }) (pos slack -ℤ pos slack)
constant_pays turned m implied ls c v slack s left = omega (arith, ints)

-- ---- the terms in turn

edge_sum : (turned : Bool) (a b : Ends) → edge turned (sum_ends a b) ≡ (edge turned a +ℤ edge turned b)
edge_sum true a b = omega (arith, ints)
edge_sum false a b = omega (arith, ints)

edge_none : (turned : Bool) (f : Arg → Ends) → edge turned (total [] f) ≡ pos 0
edge_none true f = omega (arith, ints)
edge_none false f = omega (arith, ints)

-- the terms before the rest cost at most so much
abbrev pub PaysFront : Bool → Box → Option Literal → List Literal → List Term → List Term → ℤ → Type 0
PaysFront turned m implied ls ts rest cost =
    (s : ℕ → Ends) → Each (λ u. AreLeft m implied ls u.0 (s u.0)) (vars_of ts)
    → ((edge turned (total ts (arg_ends (hulls (asked m implied)))) -ℤ edge turned (total rest (arg_ends (hulls (asked m implied))))) -ℤ cost)
    ≤ℤ (edge turned (total ts (arg_ends s)) -ℤ edge turned (total rest (arg_ends s)))

pub front_first : (turned : Bool) (m : Box) (implied : Option Literal) (ls : List Literal) (ts : List Term) (slack : ℕ)
    → PaysFront turned m implied ls ts ts (pos slack -ℤ pos slack)
front_first turned m implied ls ts slack s left = omega (arith, ints)

-- what holds of all terms' variables holds of each argument
pub at_term : (P : VarId → Type 0) (ts : List Term) (i : ℕ) (d : Term) → i < length ts → Each P (vars_of ts) → ArgHas P (get_or ts i d).arg
at_term P [] i d lt h = absurd (omega arith)
at_term P (t ∷ ts) zero d lt h = (arg_has P t ts h).0
at_term P (t ∷ ts) (suc i) d lt h = at_term P ts i d (omega arith) (arg_has P t ts h).1

front_step : (a b p q x y c d : ℤ) → ((a -ℤ (x +ℤ p)) -ℤ c) ≤ℤ (b -ℤ (y +ℤ q)) → (x -ℤ d) ≤ℤ y → ((a -ℤ p) -ℤ (c +ℤ d)) ≤ℤ (b -ℤ q)
front_step a b p q x y c d h g = omega (arith, ints)

pub front_more : (turned : Bool) (m : Box) (implied : Option Literal) (old new : List Literal) (ts : List Term) (i : ℕ) (d : Term) (slack left now : ℕ)
    → i < length ts → AddsFine m old new → PaysFront turned m implied old ts (drop i ts) (pos slack -ℤ pos left)
    → Pays turned m implied new (get_or ts i d) (pos left -ℤ pos now) → PaysFront turned m implied new ts (drop (i + 1) ts) (pos slack -ℤ pos now)
front_more turned m implied old new ts i d slack left now lt a before here s values =
    let older : Each (λ u. AreLeft m implied old u.0 (s u.0)) (vars_of ts) =
    each_map (λ u. AreLeft m implied new u.0 (s u.0)) (λ u. AreLeft m implied old u.0 (s u.0)) (vars_of ts)
    (λ u k. record { low = left_fewer m implied u.0 old new (s u.0).lo a k.low; high = left_fewer m implied u.0 old new (s u.0).hi a k.high }) values in
    let t : Term = get_or ts i d in
    let split : drop i ts ≡ t ∷ drop (i + 1) ts = drop_more ts i d lt in
    let first : ((edge turned (total ts (arg_ends (hulls (asked m implied)))) -ℤ edge turned (total (t ∷ drop (i + 1) ts) (arg_ends (hulls (asked m implied))))) -ℤ (pos slack -ℤ pos left))
    ≤ℤ (edge turned (total ts (arg_ends s)) -ℤ edge turned (total (t ∷ drop (i + 1) ts) (arg_ends s))) =
    subst (λ (rest : List Term). ((edge turned (total ts (arg_ends (hulls (asked m implied)))) -ℤ edge turned (total rest (arg_ends (hulls (asked m implied))))) -ℤ (pos slack -ℤ pos left))
    ≤ℤ (edge turned (total ts (arg_ends s)) -ℤ edge turned (total rest (arg_ends s)))) split (before s older) in
    let own : (edge turned (scaled_ends t.coef (arg_ends (hulls (asked m implied)) t.arg)) -ℤ (pos left -ℤ pos now)) ≤ℤ edge turned (scaled_ends t.coef (arg_ends s t.arg)) =
    here s (at_term (λ u. AreLeft m implied new u.0 (s u.0)) ts i d lt values) in
    let asked_sum : edge turned (total (t ∷ drop (i + 1) ts) (arg_ends (hulls (asked m implied)))) ≡ (edge turned (scaled_ends t.coef (arg_ends (hulls (asked m implied)) t.arg)) +ℤ edge turned (total (drop (i + 1) ts) (arg_ends (hulls (asked m implied))))) =
    edge_sum turned (scaled_ends t.coef (arg_ends (hulls (asked m implied)) t.arg)) (total (drop (i + 1) ts) (arg_ends (hulls (asked m implied)))) in
    let left_sum : edge turned (total (t ∷ drop (i + 1) ts) (arg_ends s)) ≡ (edge turned (scaled_ends t.coef (arg_ends s t.arg)) +ℤ edge turned (total (drop (i + 1) ts) (arg_ends s))) =
    edge_sum turned (scaled_ends t.coef (arg_ends s t.arg)) (total (drop (i + 1) ts) (arg_ends s)) in
    omega (arith, ints)

drop_all : (ts : List Term) (i : ℕ) → length ts ≤ i → drop i ts ≡ []
drop_all [] zero h = refl
drop_all [] (suc i) h = refl
drop_all (t ∷ ts) zero h = absurd (omega arith)
drop_all (t ∷ ts) (suc i) h = drop_all ts i (omega arith)

pub front_last : (turned : Bool) (m : Box) (implied : Option Literal) (ls : List Literal) (ts : List Term) (i slack left : ℕ) → length ts ≤ i
    → PaysFront turned m implied ls ts (drop i ts) (pos slack -ℤ pos left) → PaysAll turned m implied ls ts (pos slack)
front_last turned m implied ls ts i slack left h front s values =
    let whole : ((edge turned (total ts (arg_ends (hulls (asked m implied)))) -ℤ edge turned (total [] (arg_ends (hulls (asked m implied))))) -ℤ (pos slack -ℤ pos left))
    ≤ℤ (edge turned (total ts (arg_ends s)) -ℤ edge turned (total [] (arg_ends s))) =
    subst (λ (rest : List Term). ((edge turned (total ts (arg_ends (hulls (asked m implied)))) -ℤ edge turned (total rest (arg_ends (hulls (asked m implied))))) -ℤ (pos slack -ℤ pos left))
    ≤ℤ (edge turned (total ts (arg_ends s)) -ℤ edge turned (total rest (arg_ends s)))) (drop_all ts i h) (front s values) in
    let a : edge turned (total [] (arg_ends (hulls (asked m implied)))) ≡ pos 0 = edge_none turned (arg_ends (hulls (asked m implied))) in
    let b : edge turned (total [] (arg_ends s)) ≡ pos 0 = edge_none turned (arg_ends s) in
    omega (arith, ints)

-- ---- the whole reason

pub against_ends : (m : Box) (implied : Option Literal) (front : List Literal) (c : Start) (v : ℕ) → IsAgainst m implied front c v → AreLeft m implied front v (ends_of c)
against_ends m implied front c v a =
    let k : IsCell c = sane-cell c a.sane in
    record { low = a.left (lo_of c) k.least; high = a.left (hi_of c) k.greatest }

-- what pays for all terms leaves the relation refuted
pub sum_reason : (k : SumRelation) (m : Box) (implied : Option Literal) (front ls : List Literal) (t : Ends) (e : Excess) → IsBox m → AllBelow (length m.starts) (sum_vars k)
    → IsCause (sum_refuted k) (cell_of m) implied → IsRead (length m.starts) implied → AllFine m front → ls ≡ front ++ option_to_list implied
    → t ≡ total k.terms (arg_ends (hulls (asked m implied))) → IsExcess k.relation k.bound t e → PaysAll e.turned m implied front k.terms (pos e.slack)
    → IsReason (sum_refuted k) m implied ls
sum_reason k m implied front ls t e s below cause read fine whole sum excess pays =
    let o : IsOpen (cell_of m) implied = cause_open (sum_refuted k) (cell_of m) implied cause in
    let left : Each (λ u. AreLeft m implied front u.0 (hulls (against m ls) u.0)) (vars_of k.terms) =
    each_map (λ u. u.0 < length m.starts) (λ u. AreLeft m implied front u.0 (hulls (against m ls) u.0)) (vars_of k.terms)
    (λ u lt. against_ends m implied front (against m ls u.0) u.0 (against_is m implied front ls u.0 s lt fine o whole))
    (each_listed (λ u. u.0 < length m.starts) (vars_of k.terms) below) in
    end_reason (sum_refuted k) m implied front ls s cause read fine whole
    (excess (total k.terms (arg_ends (hulls (against m ls))))
    (subst (λ (x : Ends). (edge e.turned x -ℤ pos e.slack) ≤ℤ edge e.turned (total k.terms (arg_ends (hulls (against m ls))))) (sym sum) (pays (hulls (against m ls)) left)))

pub refuted_asked : (k : SumRelation) (m : Box) (implied : Option Literal) (r : Relation) (t : Ends) (b : ℤ) → r ≡ k.relation
    → t ≡ total k.terms (arg_ends (hulls (asked m implied))) → b ≡ k.bound → IsCause (sum_refuted k) (cell_of m) implied → refuted_by r t b ≡ true
refuted_asked k m implied r t b e f g cause =
    ap (λ (q : Relation). refuted_by q t b) e ∙ ap (λ (x : Ends). refuted_by k.relation x b) f
    ∙ ap (refuted_by k.relation (total k.terms (arg_ends (hulls (asked m implied))))) g ∙ cause_refutes (sum_refuted k) m implied cause

pub terms_below : (k : SumRelation) (n : ℕ) (ts : List Term) → ts ≡ k.terms → AllBelow n (sum_vars k) → AllBelow n (vars_of ts)
terms_below k n ts e below = subst (λ (xs : List Term). AllBelow n (vars_of xs)) (sym e) (each_listed (λ u. u.0 < n) (vars_of k.terms) below)

-- the same of a relation's parts that were read from it
pub sum_reason_of : (k : SumRelation) (m : Box) (implied : Option Literal) (front ls : List Literal) (t : Ends) (e : Excess) (r : Relation) (b : ℤ) (ts : List Term)
    → r ≡ k.relation → b ≡ k.bound → ts ≡ k.terms → IsBox m → AllBelow (length m.starts) (sum_vars k)
    → IsCause (sum_refuted k) (cell_of m) implied → IsRead (length m.starts) implied → AllFine m front → ls ≡ front ++ option_to_list implied
    → t ≡ total k.terms (arg_ends (hulls (asked m implied))) → IsExcess r b t e → PaysAll e.turned m implied front ts (pos e.slack)
    → IsReason (sum_refuted k) m implied ls
sum_reason_of k m implied front ls t e r b ts same_relation same_bound same_terms s below cause read fine whole sum excess pays =
    sum_reason k m implied front ls t e s below cause read fine whole sum
    (subst (λ (q : Relation). IsExcess q k.bound t e) same_relation (subst (λ (c : ℤ). IsExcess r c t e) same_bound excess))
    (subst (λ (xs : List Term). PaysAll e.turned m implied front xs (pos e.slack)) same_terms pays)
