-- Variables in an order in which each comes behind what its definition reads.
use Rattle.std.proofs.Common.{◌≡◌, ◌<◌, ◌≤◌, Option, Some, None, List, [], ◌∷◌, ℕ, zero, suc, length, get_or, slice_get, take, refl, sym, ◌∙◌, ap, subst, arith}
use Rattle.std.specs.List.{Contains}
use Rattle.std.proofs.lemmas.List.{get_or_default}
use Rattle.std.proofs.lemmas.Option.{get_or_from_slice_get, slice_get_read}
use Rattle.any_kind.specs.Any.{any_inputs}
use Rattle.any_kind.specs.declared.any.AnyKind.{AnyKind}
use Rattle.dom_core.proofs.ListLaws.{get_take}
use Rattle.dom_definers.specs.Definers.{definer_at}
use Rattle.dom_definers.proofs.SolvingLaws.{below_numbers, each_number}
use Rattle.dom_network.specs.Completion.{definition_at, inputs_at, reading_of}
use Rattle.dom_network.specs.Filling.{own_definition}
use Rattle.dom_network.specs.Network.{IsNetwork, Network}
use Rattle.dom_network.proofs.HullLaws.{by_definer, fit_at, inputs_below}
use Rattle.kind_law.specs.Laws.{Each}

row_at : (ks : List AnyKind) (ds : List (Option ℕ)) (v : ℕ) → v < length ds → get_or (reading_of ks ds) v [] ≡ inputs_at (definition_at ks (definer_at ds v))
row_at ks [] v lt = absurd (omega (arith, lt))
row_at ks (d ∷ ds) zero lt = refl
row_at ks (d ∷ ds) (suc v) lt = row_at ks ds v (omega (arith, lt))

-- there is a row for each variable
pub reading_count : (ks : List AnyKind) (ds : List (Option ℕ)) → length (reading_of ks ds) ≡ length ds
reading_count ks [] = refl
reading_count ks (d ∷ ds) = ap suc (reading_count ks ds)

-- the definition is that of the constraint
pub defined_by : (m : Network) (v i : ℕ) (k : AnyKind) → definer_at m.definers v ≡ Some i → slice_get m.constraints i ≡ Some k → own_definition m v ≡ Some k
defined_by m v i k e g = ap (λ (d : Option ℕ). definition_at m.constraints d) e ∙ g

pub defined_none : (m : Network) (v : ℕ) → definer_at m.definers v ≡ None → own_definition m v ≡ None
defined_none m v e = ap (λ (d : Option ℕ). definition_at m.constraints d) e

-- the number is that of a variable that the definition reads
abbrev pub IsRead : Network → ℕ → ℕ → Type 0
IsRead m v b = Contains (inputs_at (own_definition m v)) b

-- what holds of all that a definition reads holds of its inputs
pub each_read : (m : Network) (v : ℕ) (k : AnyKind) (P : ℕ → Type 0) → own_definition m v ≡ Some k → ((b : ℕ) → IsRead m v b → P b) → Each (λ u. P u.0) (any_inputs k)
each_read m v k P e h = each_number P (any_inputs k) (λ b c. h b (subst (λ (d : Option AnyKind). Contains (inputs_at d) b) (sym e) c))

module _ (m : Network) (order : List ℕ) (net : IsNetwork m order) where
  pub order_below : (i : ℕ) → i < length order → get_or order i 0 < length m.definers
  order_below i lt =
      let b : get_or order i 0 < length (reading_of m.constraints m.definers) = net.is_order.nodes (get_or order i 0) (i, lt, get_or_default order i (get_or order i 0) 0 lt) in
      omega (arith, b, reading_count m.constraints m.definers)

  -- no variable stands twice
  pub order_apart : (i j : ℕ) → i < length order → j < length order → get_or order i 0 ≡ get_or order j 0 → i ≡ j
  order_apart i j li lj e =
      net.is_order.once i j (get_or order j 0) (slice_get_read order (length order) i (get_or order j 0) refl li (sym e ∙ get_or_default order i 0 (get_or order j 0) li))
      (slice_get_read order (length order) j (get_or order j 0) refl lj (get_or_default order j 0 (get_or order j 0) lj))

  read_below : (v b : ℕ) → v < length m.definers → IsRead m v b → b < length m.definers
  read_below v b lt c =
      by_definer m.hulls m.constraints m.definers v (b < length m.definers) (definer_at m.definers v) refl (net.given v lt)
      (λ e. (let none : Contains [] b = subst (λ (d : Option AnyKind). Contains (inputs_at d) b) (defined_none m v e) c in absurd (omega (arith, none.1))))
      (λ i k e g gives. (let below : b < length m.hulls = below_numbers (length m.hulls) (any_inputs k) b (inputs_below m.hulls v k (fit_at m.hulls m.constraints i k net.fit g) gives)
      (subst (λ (d : Option AnyKind). Contains (inputs_at d) b) (defined_by m v i k e g) c) in omega (arith, below, net.whole)))

  -- what is read by a variable's definition stands before it
  pub read_before : (i b : ℕ) → i < length order → IsRead m (get_or order i 0) b → (j : ℕ) × (j < i) × (slice_get order j ≡ Some b)
  read_before i b lt c =
      let node : get_or order i 0 < length m.definers = order_below i lt in
      let below : b < length m.definers = read_below (get_or order i 0) b node c in
      let row : Contains (get_or (reading_of m.constraints m.definers) (get_or order i 0) []) b =
      subst (λ (xs : List ℕ). Contains xs b) (sym (row_at m.constraints m.definers (get_or order i 0) node)) c in
      let there = net.is_order.behind i b lt (omega (arith, below, reading_count m.constraints m.definers), row) in
      let front = get_take order i there.0 b (slice_get_read (take i order) (length (take i order)) there.0 b refl there.1 (sym there.2)) in
      (there.0, front.0, front.1)

  pub read_settled : (P : ℕ → Type 0) (i : ℕ) → i < length order → ((j : ℕ) → j < i → P (get_or order j 0)) → (b : ℕ) → IsRead m (get_or order i 0) b → P b
  read_settled P i lt done b c = let r = read_before i b lt c in subst P (get_or_from_slice_get order r.0 b 0 r.2) (done r.0 r.1)

  before : (P : ℕ → Type 0) → ((v : ℕ) → v < length m.definers → ((b : ℕ) → IsRead m v b → P b) → P v) → (n k : ℕ) → k < n → k < length order → P (get_or order k 0)
  before P step zero k kn l = absurd (omega (arith, kn))
  before P step (suc n) k kn l =
      step (get_or order k 0) (order_below k l) (read_settled P k l (λ j jk. before P step n j (omega (arith, jk, kn)) (omega (arith, jk, l))))

  -- what holds of the variables along the order holds of all
  pub each_variable : (P : ℕ → Type 0) (n : ℕ) → length order ≤ n → ((k : ℕ) → k < n → P (get_or order k 0)) → (v : ℕ) → v < length m.definers → P v
  each_variable P n e h v lt =
      let there = net.is_order.whole v (omega (arith, lt, reading_count m.constraints m.definers)) in
      subst P (get_or_default order there.0 0 v there.1 ∙ there.2) (h there.0 (omega (arith, there.1, e)))

  -- what holds of each variable where it holds of what its definition reads holds of all
  pub along : (P : ℕ → Type 0) → ((v : ℕ) → v < length m.definers → ((b : ℕ) → IsRead m v b → P b) → P v) → (v : ℕ) → v < length m.definers → P v
  along P step = each_variable P (length order) (omega arith) (λ k l. before P step (suc k) k (omega arith) l)
