-- More edges at the last node of a graph.
use Rattle.std.proofs.Common.{◌≡◌, ℕ, ◌+◌, ◌<◌, List, [], ◌∷◌, ◌++◌, length, take, get_or, map, suc, refl, sym, ap, ◌∙◌, append_assoc, append-nil, arith}
use Rattle.std.proofs.lemmas.List.{take_more, map_more}
use Rattle.std.proofs.lemmas.Grind.{flat_map-append}
use Rattle.std.specs.Prelude.{flat_map}
use Rattle.digraph.specs.Grown.{GainsEdge}
use Rattle.fzn_check.specs.Edges.{with_edges}

-- the last node's row grows
pub with_edges_at : (rows : List (List ℕ)) (row ks : List ℕ) → with_edges (rows ++ row ∷ []) ks ≡ rows ++ (row ++ ks) ∷ []
with_edges_at [] row ks = refl
with_edges_at (r ∷ []) row ks = refl
with_edges_at (r ∷ s ∷ rows) row ks = ap (λ x. r ∷ x) (with_edges_at (s ∷ rows) row ks)

-- an edge more
pub edge_gained : (old new : List (List ℕ)) (to : ℕ) → GainsEdge old to new → new ≡ with_edges old (to ∷ [])
edge_gained old new to h = h.3 ∙ sym (ap (λ g. with_edges g (to ∷ [])) h.2 ∙ with_edges_at h.0 h.1 (to ∷ []))

-- no edge more
pub with_no_edges : (rows : List (List ℕ)) → with_edges rows [] ≡ rows
with_no_edges [] = refl
with_no_edges (r ∷ []) = ap (λ x. x ∷ []) (append-nil r)
with_no_edges (r ∷ s ∷ rows) = ap (λ x. r ∷ x) (with_no_edges (s ∷ rows))

-- edges are added in turn
pub with_more_edges : (rows : List (List ℕ)) (ks ls : List ℕ) → with_edges (with_edges rows ks) ls ≡ with_edges rows (ks ++ ls)
with_more_edges [] ks ls = refl
with_more_edges (r ∷ []) ks ls = ap (λ x. x ∷ []) (append_assoc r ks ls)
with_more_edges (r ∷ s ∷ []) ks ls = ap (λ x. r ∷ x) (with_more_edges (s ∷ []) ks ls)
with_more_edges (r ∷ s ∷ t ∷ rows) ks ls = ap (λ x. r ∷ x) (with_more_edges (s ∷ t ∷ rows) ks ls)

-- the nodes stay as many
pub length-with_edges : (rows : List (List ℕ)) (ks : List ℕ) → length (with_edges rows ks) ≡ length rows
length-with_edges [] ks = refl
length-with_edges (r ∷ []) ks = refl
length-with_edges (r ∷ s ∷ rows) ks = ap (λ n. suc n) (length-with_edges (s ∷ rows) ks)

-- one item more of those that give numbers
pub flat_map_more : {X : Type 0} (f : X → List ℕ) (xs : List X) (i : ℕ) (d : X) → i < length xs → flat_map f (take (i + 1) xs) ≡ flat_map f (take i xs) ++ f (get_or xs i d)
flat_map_more f xs i d lt =
    ap (flat_map f) (take_more xs i d lt) ∙ flat_map-append f (take i xs) (get_or xs i d ∷ []) ∙ ap (λ l. flat_map f (take i xs) ++ l) (append-nil (f (get_or xs i d)))

-- a node with these successors stands behind the others
pub node_added : (old grown new : List (List ℕ)) (ks : List ℕ) → grown ≡ old ++ [] ∷ [] → new ≡ with_edges grown ks → new ≡ old ++ ks ∷ []
node_added old grown new ks node edges = edges ∙ ap (λ g. with_edges g ks) node ∙ with_edges_at old [] ks

-- the entries so far and one more have led to their edges
pub entries_more : {X : Type 0} (f : X → List ℕ) (xs : List X) (i : ℕ) (x : X) (old so_far new : List (List ℕ)) → i < length xs → x ≡ get_or xs i x
    → so_far ≡ with_edges old (flat_map f (take i xs)) → new ≡ with_edges so_far (f x) → new ≡ with_edges old (flat_map f (take (i + 1) xs))
entries_more f xs i x old so_far new lt is before after =
    after ∙ ap (λ g. with_edges g (f x)) before ∙ with_more_edges old (flat_map f (take i xs)) (f x)
    ∙ ap (λ y. with_edges old (flat_map f (take i xs) ++ f y)) is ∙ ap (with_edges old) (sym (flat_map_more f xs i x lt))

-- edges leave some node where there was one
pub some_left : (old new : List (List ℕ)) (ks : List ℕ) → 0 < length old → new ≡ with_edges old ks → 0 < length new
some_left old new ks some is = let same : length new ≡ length old = ap length is ∙ length-with_edges old ks in omega (arith, same, some)

-- the nodes so far and one more
pub nodes_more : {X : Type 0} (f : X → List ℕ) (xs : List X) (i : ℕ) (x : X) (old grown new : List (List ℕ)) → i < length xs → x ≡ get_or xs i x
    → old ≡ map f (take i xs) → grown ≡ old ++ [] ∷ [] → new ≡ with_edges grown (f x) → new ≡ map f (take (i + 1) xs)
nodes_more f xs i x old grown new lt is before node edges =
    node_added old grown new (f x) node edges ∙ ap (λ g. g ++ f x ∷ []) before ∙ ap (λ y. map f (take i xs) ++ f y ∷ []) is ∙ sym (map_more f xs i x lt)

-- the marks so far and one more
pub marks_more : {X Y : Type 0} (f : X → Y) (xs : List X) (i : ℕ) (x : X) (old new : List Y) (y : Y) → i < length xs → x ≡ get_or xs i x
    → old ≡ map f (take i xs) → y ≡ f x → new ≡ old ++ y ∷ [] → new ≡ map f (take (i + 1) xs)
marks_more f xs i x old new y lt is before same pushed =
    pushed ∙ ap (λ l. l ++ y ∷ []) before ∙ ap (λ z. map f (take i xs) ++ z ∷ []) (same ∙ ap f is) ∙ sym (map_more f xs i x lt)
