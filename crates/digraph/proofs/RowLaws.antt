-- Successors kept in one list: reading a node's, adding a node, adding a successor.
use Rattle.std.proofs.Common.{◌≡◌, ℕ, zero, suc, ◌+◌, ◌-◌, ◌<◌, ◌≤◌, List, [], ◌∷◌, ◌++◌, length, take, drop, get_or, refl, sym, ap, ◌∙◌, subst, arith, add-one}
use Rattle.std.proofs.lemmas.List.{take_all, drop_all, take-append-le, drop-append-le, length-drop, get_or_read}
use Rattle.digraph.specs.Rows.{rows_of, Rises}
use Rattle.digraph.specs.Grown.{GainsNode, GainsEdge}

-- ---- reading

pub length-rows_of : (ss ts : List ℕ) → length (rows_of ss ts) ≡ length ss
length-rows_of [] ts = refl
length-rows_of (s ∷ ss) ts = ap suc (length-rows_of ss ts)

pub rows_at : (ss ts : List ℕ) (k : ℕ) → k < length ss → get_or (rows_of ss ts) k [] ≡ take (get_or ss (k + 1) (length ts) - get_or ss k 0) (drop (get_or ss k 0) ts)
rows_at [] ts k lt = absurd (omega arith)
rows_at (s ∷ ss) ts zero lt = refl
rows_at (s ∷ ss) ts (suc k) lt = rw add-one (subst (λ n. get_or (rows_of ss ts) k [] ≡ take (get_or ss n (length ts) - get_or ss k 0) (drop (get_or ss k 0) ts)) (omega arith) (rows_at ss ts k (omega arith)))

pub first_within : (ss : List ℕ) (len : ℕ) → Rises ss len → get_or ss 0 len ≤ len
first_within [] len rises = omega arith
first_within (s ∷ ss) len rises = omega (arith, rises.0, first_within ss len rises.1)

pub rises_at : (ss : List ℕ) (len k : ℕ) → Rises ss len → k < length ss → get_or ss k 0 ≤ get_or ss (k + 1) len
rises_at [] len k rises lt = absurd (omega arith)
rises_at (s ∷ ss) len zero rises lt = rises.0
rises_at (s ∷ ss) len (suc k) rises lt = rw add-one (subst (λ n. get_or ss k 0 ≤ get_or ss n len) (omega arith) (rises_at ss len k rises.1 (omega arith)))

pub ends_within : (ss : List ℕ) (len k : ℕ) → Rises ss len → get_or ss k len ≤ len
ends_within [] len k rises = omega arith
ends_within (s ∷ ss) len zero rises = first_within (s ∷ ss) len rises
ends_within (s ∷ ss) len (suc k) rises = ends_within ss len k rises.1

-- the place where a node's successors end, of copies of the two lists
pub end_of : (ss ts ds us : List ℕ) (k n len e : ℕ) → ds ≡ ss → us ≡ ts → length us ≡ n → len ≡ n → e ≡ get_or ds (k + 1) len → e ≡ get_or ss (k + 1) (length ts)
end_of ss ts ds us k n len e starts targets count same is =
    let all : len ≡ length ts = omega (arith, ap length targets) in
    cc

-- what stands between the two places is the node's row
pub row_between : (ss ts : List ℕ) (graph : List (List ℕ)) (k s e : ℕ) → rows_of ss ts ≡ graph → k < length graph → Rises ss (length ts) → s ≡ get_or ss k s → e ≡ get_or ss (k + 1) (length ts)
    → (s ≤ e) × (e ≤ length ts) × (take (e - s) (drop s ts) ≡ get_or graph k [])
row_between ss ts graph k s e is lt rises s_is e_is =
    let within : k < length ss = omega (arith, length-rows_of ss ts, ap length is) in
    let start : s ≡ get_or ss k 0 = get_or_read ss k s within s_is 0 in
    (rw (start, e_is) (rises_at ss (length ts) k rises within), rw e_is (ends_within ss (length ts) (k + 1) rises), rw (start, e_is) (sym (rows_at ss ts k within) ∙ ap (λ (g : List (List ℕ)). get_or g k []) is))

-- ---- a node more

pub rises_node : (ss : List ℕ) (len : ℕ) → Rises ss len → Rises (ss ++ len ∷ []) len
rises_node [] len rises = (omega arith, tt)
rises_node (s ∷ []) len rises = (rises.0, (omega arith, tt))
rises_node (s ∷ t ∷ ss) len rises = (rises.0, rises_node (t ∷ ss) len rises.1)

pub gains_node : (ss ts : List ℕ) → GainsNode (rows_of ss ts) (rows_of (ss ++ length ts ∷ []) ts)
gains_node [] ts = ap (λ (r : List ℕ). r ∷ []) (take_all (length ts - length ts) (drop (length ts) ts) (omega (arith, length-drop (length ts) ts)) ∙ drop_all (length ts) ts (omega arith))
gains_node (s ∷ []) ts = ap (λ (rs : List (List ℕ)). take (length ts - s) (drop s ts) ∷ rs) (gains_node [] ts)
gains_node (s ∷ t ∷ ss) ts = ap (λ (rs : List (List ℕ)). take (t - s) (drop s ts) ∷ rs) (gains_node (t ∷ ss) ts)

-- ---- a successor more

pub rises_edge : (ss : List ℕ) (len : ℕ) → Rises ss len → Rises ss (suc len)
rises_edge [] len rises = tt
rises_edge (s ∷ []) len rises = (omega (arith, rises.0), tt)
rises_edge (s ∷ t ∷ ss) len rises = (rises.0, rises_edge (t ∷ ss) len rises.1)

-- what begins before the end is the same but at the end
early_row : (ts : List ℕ) (s e t : ℕ) → s ≤ e → e ≤ length ts → take (e - s) (drop s (ts ++ t ∷ [])) ≡ take (e - s) (drop s ts)
early_row ts s e t low high =
    ap (take (e - s)) (drop-append-le s ts (t ∷ []) (omega arith))
    ∙ take-append-le (e - s) (drop s ts) (t ∷ []) (omega (arith, length-drop s ts))

last_row : (ts : List ℕ) (s t : ℕ) → s ≤ length ts → take (length (ts ++ t ∷ []) - s) (drop s (ts ++ t ∷ [])) ≡ take (length ts - s) (drop s ts) ++ t ∷ []
last_row ts s t low =
    take_all _ _ (omega (arith, length-drop s (ts ++ t ∷ []))) ∙ drop-append-le s ts (t ∷ []) low
    ∙ ap (λ (r : List ℕ). r ++ t ∷ []) (sym (take_all (length ts - s) (drop s ts) (omega (arith, length-drop s ts))))

pub gains_edge : (ss ts : List ℕ) (t : ℕ) → 0 < length ss → Rises ss (length ts) → GainsEdge (rows_of ss ts) t (rows_of ss (ts ++ t ∷ []))
gains_edge [] ts t some rises = absurd (omega arith)
gains_edge (s ∷ []) ts t some rises = ([], take (length ts - s) (drop s ts), refl, ap (λ (r : List ℕ). r ∷ []) (last_row ts s t rises.0))
gains_edge (s ∷ u ∷ ss) ts t some rises =
    let row = take (u - s) (drop s ts) in
    let rest = gains_edge (u ∷ ss) ts t (omega arith) rises.1 in (
      row ∷ rest.0,
      rest.1,
      ap (λ (rs : List (List ℕ)). row ∷ rs) rest.2,
      ap (λ (r : List ℕ). r ∷ rows_of (u ∷ ss) (ts ++ t ∷ [])) (early_row ts s u t rises.0 (first_within (u ∷ ss) (length ts) rises.1)) ∙ ap (λ (rs : List (List ℕ)). row ∷ rs) rest.3,
    )
