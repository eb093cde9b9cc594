-- Hulls that are found in order stay as they are found.
use Rattle.std.proofs.Common.{◌≡◌, ℕ, zero, suc, ◌+◌, ◌<◌, ◌≤◌, Bool, true, List, [], ◌∷◌, length, take, get_or, set, refl, sym, ◌∙◌, ap, subst, arith, Option, Some, None, if◌then◌else◌, slice_get, inl, inr}
use Rattle.std.specs.List.{Contains}
use Rattle.std.proofs.lemmas.Bool.{cases_lt}
use Rattle.std.proofs.lemmas.List.{get_or-set_other, get_or_default}
use Rattle.std.proofs.lemmas.Grind.{get_or-set_at}
use Rattle.std.proofs.lemmas.Option.{slice_get_read}
use Rattle.dom_core.proofs.ListLaws.{get_take}
use Rattle.any_kind.specs.Any.{any_functional, any_inputs, any_vars}
use Rattle.digraph.specs.Order.{IsOrder}
use Rattle.digraph.proofs.OrderLaws.{place_of}
use Rattle.dom_core.specs.Ends.{Ends}
use Rattle.dom_core.specs.declared.var_id.VarId.{VarId}
use Rattle.kind_law.specs.Laws.{Each, AllBelow}
use Rattle.dom_definers.specs.Definers.{definer_at, dependence, numbers, posted_reads, reads_at, reads_of}
use Rattle.dom_definers.specs.Hulls.{AreFitDefiners, AreSmallHulls, IsFitDefiner, IsHull, IsPostedDefinition, declared_or_none, hull_at, own_hull, posted_hull}
use Rattle.dom_definers.specs.Variable.{declared_hull}
use Rattle.dom_definers.specs.declared.posted.Posted.{Posted}
use Rattle.dom_definers.specs.declared.variable.Variable.{Variable}
use Rattle.dom_definers.proofs.HullLaws.{AreOrdered, AreSame, same_hull, small_ordered}

-- ---- places

pub read_at : (xs : List ℕ) (i : ℕ) → i < length xs → slice_get xs i ≡ Some (get_or xs i 0)
read_at xs i lt = slice_get_read xs (length xs) i (get_or xs i 0) refl lt (get_or_default xs i 0 (get_or xs i 0) lt)

-- ---- what a definition reads

-- each number of the list is that of a variable
pub each_number : (P : ℕ → Type 0) (vs : List VarId) → ((b : ℕ) → Contains (numbers vs) b → P b) → Each (λ u. P u.0) vs
each_number P [] h = tt
each_number P (u ∷ us) h = (h u.0 (0, omega arith, refl), each_number P us (λ b c. h b (suc c.0, omega (arith, c.1), c.2)))

pub node_row : (cs : List Posted) (ds : List (Option ℕ)) (v : ℕ) → v < length ds → get_or (dependence cs ds) v [] ≡ numbers (reads_at cs (definer_at ds v))
node_row cs [] v lt = absurd (omega (arith, lt))
node_row cs (d ∷ ds) zero lt = refl
node_row cs (d ∷ ds) (suc v) lt = node_row cs ds v (omega (arith, lt))

pub nodes : (cs : List Posted) (ds : List (Option ℕ)) → length (dependence cs ds) ≡ length ds
nodes cs [] = refl
nodes cs (d ∷ ds) = ap suc (nodes cs ds)

-- a definition with a functional shape reads its inputs
pub reads_inputs : (k : _) → any_functional k ≡ true → reads_of k ≡ any_inputs k
reads_inputs k f = ap (λ (b : Bool). if b then any_inputs k else any_vars k) f

pub below_numbers : (n : ℕ) (vs : List VarId) (b : ℕ) → AllBelow n vs → Contains (numbers vs) b → b < n
below_numbers n [] b h c = absurd (omega (arith, c.1))
below_numbers n (u ∷ us) b h (zero, lt, e) = subst (λ (m : ℕ). m < n) e h.0
below_numbers n (u ∷ us) b h (suc i, lt, e) = below_numbers n us b h.1 (i, omega (arith, lt), e)

posted_below : (n : ℕ) (p : Option Posted) (b : ℕ) → IsPostedDefinition n p → Contains (numbers (posted_reads p)) b → b < n
posted_below n None b f c = absurd (omega (arith, c.1))
posted_below n (Some p) b f c = below_numbers n (any_inputs p.kind) b f.below (subst (λ (vs : List VarId). Contains (numbers vs) b) (reads_inputs p.kind f.functional) c)

reads_below : (n : ℕ) (cs : List Posted) (d : Option ℕ) (b : ℕ) → IsFitDefiner n cs d → Contains (numbers (reads_at cs d)) b → b < n
reads_below n cs None b f c = absurd (omega (arith, c.1))
reads_below n cs (Some i) b f c = posted_below n (slice_get cs i) b f c

-- ---- hulls that agree on what is read

same_posted : (p : Option Posted) (declared : Option Ends) (hs gs : List (Option Ends)) → AreOrdered hs (posted_reads p) → AreSame hs gs (posted_reads p)
    → posted_hull p declared hs ≡ posted_hull p declared gs
same_posted None declared hs gs o e = refl
same_posted (Some p) declared hs gs o e = same_hull p.kind hs gs o e declared

-- the hulls by a definition are the same
pub same_own : (cs : List Posted) (d : Option ℕ) (declared : Option Ends) (hs gs : List (Option Ends)) → AreOrdered hs (reads_at cs d) → AreSame hs gs (reads_at cs d)
    → own_hull cs d declared hs ≡ own_hull cs d declared gs
same_own cs None declared hs gs o e = refl
same_own cs (Some i) declared hs gs o e = same_posted (slice_get cs i) declared hs gs o e

-- ---- one hull more

-- each node of the order is a variable
pub order_below : (vs : List Variable) (cs : List Posted) (ds : List (Option ℕ)) (order : List ℕ) (k : ℕ) → length ds ≡ length vs → IsOrder (dependence cs ds) order
    → k < length order → get_or order k 0 < length vs
order_below vs cs ds order k whole is_order l =
    let b : get_or order k 0 < length (dependence cs ds) = is_order.nodes (get_or order k 0) (k, l, get_or_default order k (get_or order k 0) 0 l) in
    omega (arith, b, nodes cs ds, whole)

-- a variable that a node's definition reads stands before it
pub node_before : (vs : List Variable) (cs : List Posted) (ds : List (Option ℕ)) (order : List ℕ) → length ds ≡ length vs → IsOrder (dependence cs ds) order
    → (k b : ℕ) → k < length order → b < length vs → Contains (numbers (reads_at cs (definer_at ds (get_or order k 0)))) b
    → (j : ℕ) × (j < k) × (slice_get order j ≡ Some b)
node_before vs cs ds order whole is_order k b l q c =
    let node : get_or order k 0 < length vs = order_below vs cs ds order k whole is_order l in
    let below : b < length (dependence cs ds) = omega (arith, q, nodes cs ds, whole) in
    let row : Contains (get_or (dependence cs ds) (get_or order k 0) []) b =
    subst (λ (xs : List ℕ). Contains xs b) (sym (node_row cs ds (get_or order k 0) (omega (arith, node, whole)))) c in
    let there = place_of (take k order) b (is_order.behind k b l (below, row)) in
    let front = get_take order k there.0 b there.1 in
    (there.0, front.0, front.1)

-- what a node's definition reads stands before it
pub read_before : (vs : List Variable) (cs : List Posted) (ds : List (Option ℕ)) (order : List ℕ) → length ds ≡ length vs → AreFitDefiners (length vs) cs ds
    → IsOrder (dependence cs ds) order → (k b : ℕ) → k < length order → Contains (numbers (reads_at cs (definer_at ds (get_or order k 0)))) b
    → (j : ℕ) × (j < k) × (slice_get order j ≡ Some b)
read_before vs cs ds order whole fit is_order k b l c =
    node_before vs cs ds order whole is_order k b l (reads_below (length vs) cs (definer_at ds (get_or order k 0)) b (fit (get_or order k 0)) c) c

module _ (vs : List Variable) (cs : List Posted) (ds : List (Option ℕ)) (order : List ℕ) (hs : List (Option Ends)) (i : ℕ) (hull : Option Ends)
    (whole : length ds ≡ length vs) (size : length hs ≡ length vs) (fit : AreFitDefiners (length vs) cs ds) (is_order : IsOrder (dependence cs ds) order)
    (small : AreSmallHulls hs) (lt : i < length order) where
  node_below : (k : ℕ) → k < length order → get_or order k 0 < length vs
  node_below k l = order_below vs cs ds order k whole is_order l

  -- what the definition of a node at an earlier place, or this one, reads isn't this node
  other_read : (k : ℕ) → k < i + 1 → (b : ℕ) → Contains (numbers (reads_at cs (definer_at ds (get_or order k 0)))) b → b ≡ get_or order i 0 → ⊥
  other_read k kl b c e =
      let r = read_before vs cs ds order whole fit is_order k b (omega (arith, kl, lt)) c in
      let one : r.0 ≡ i = is_order.once r.0 i b r.2 (subst (λ (x : ℕ). slice_get order i ≡ Some x) (sym e) (read_at order i lt)) in
      omega (arith, r.1, one, kl)

  apart : (k : ℕ) → k < i → get_or order k 0 ≡ get_or order i 0 → ⊥
  apart k kl e =
      let one : k ≡ i = is_order.once k i (get_or order i 0) (subst (λ (x : ℕ). slice_get order k ≡ Some x) e (read_at order k (omega (arith, kl, lt)))) (read_at order i lt) in
      omega (arith, one, kl)

  -- the hulls of what is read at an earlier place, or this one, stay
  stay : (k : ℕ) → k < i + 1 → AreSame hs (set hs (get_or order i 0) hull) (reads_at cs (definer_at ds (get_or order k 0)))
  stay k kl =
      each_number (λ b. hull_at hs b ≡ hull_at (set hs (get_or order i 0) hull) b) (reads_at cs (definer_at ds (get_or order k 0)))
      (λ b c. sym (get_or-set_other hs (get_or order i 0) b hull None (other_read k kl b c)))

  kept : (k : ℕ) → k < i + 1 → (declared : Option Ends)
      → own_hull cs (definer_at ds (get_or order k 0)) declared hs ≡ own_hull cs (definer_at ds (get_or order k 0)) declared (set hs (get_or order i 0) hull)
  kept k kl declared = same_own cs (definer_at ds (get_or order k 0)) declared hs (set hs (get_or order i 0) hull)
      (small_ordered hs (reads_at cs (definer_at ds (get_or order k 0))) small) (stay k kl)

  pub next_hull : hull ≡ own_hull cs (definer_at ds (get_or order i 0)) (declared_or_none (slice_get vs (get_or order i 0))) hs
      → ((k : ℕ) → k < i → IsHull vs cs ds hs (get_or order k 0)) → (k : ℕ) → k < i + 1 → IsHull vs cs ds (set hs (get_or order i 0) hull) (get_or order k 0)
  next_hull own done k kl =
      elim (cases_lt k i) [
        | inl below ↦ get_or-set_other hs (get_or order i 0) (get_or order k 0) hull None (apart k below) ∙ done k below ∙ kept k kl (declared_or_none (slice_get vs (get_or order k 0)))
        | inr past ↦ (let same : k ≡ i = omega (arith, past, kl) in
            subst (λ (j : ℕ). IsHull vs cs ds (set hs (get_or order i 0) hull) (get_or order j 0)) (sym same)
            (get_or-set_at hs (get_or order i 0) (get_or order i 0) hull None refl (omega (arith, size, node_below i lt)) ∙ own ∙ kept i (omega arith) (declared_or_none (slice_get vs (get_or order i 0)))))
      ]

-- ---- in the words of the calls

-- what is declared of the variable that is read
pub declared_read : (vs : List Variable) (v : ℕ) (x : Variable) → v < length vs → x ≡ get_or vs v x → declared_or_none (slice_get vs v) ≡ declared_hull x
declared_read vs v x lt e = ap (λ (o : Option Variable). declared_or_none o) (slice_get_read vs (length vs) v x refl lt e)

-- the hulls of all nodes of the order are those of all variables
pub all_found : (vs : List Variable) (cs : List Posted) (ds : List (Option ℕ)) (order : List ℕ) (hs : List (Option Ends)) (i : ℕ)
    → length ds ≡ length vs → IsOrder (dependence cs ds) order → length order ≤ i
    → ((k : ℕ) → k < i → IsHull vs cs ds hs (get_or order k 0)) → (v : ℕ) → v < length vs → IsHull vs cs ds hs v
all_found vs cs ds order hs i whole is_order past found v below =
    let there = is_order.whole v (omega (arith, below, nodes cs ds, whole)) in
    subst (λ (x : ℕ). IsHull vs cs ds hs x) (get_or_default order there.0 0 v there.1 ∙ there.2) (found there.0 (omega (arith, there.1, past)))
