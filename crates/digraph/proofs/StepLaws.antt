-- A walk in depth: each step keeps what is known and leaves fewer, and each walk from a node comes back with it done.
use Rattle.std.proofs.Common.{◌≡◌, inl, inr, ℕ, zero, suc, ◌+◌, ◌-◌, ◌<◌, Bool, true, false, MatchBool, List, [], ◌∷◌, length, get_or, set, slice_get, Some, None, refl, sym, ap, ◌∙◌, subst, arith}
use Rattle.std.specs.List.{Contains}
use Rattle.std.proofs.lemmas.Option.{slice_get_within}
use Rattle.digraph.specs.declared.depth_first.State.{State}
use Rattle.digraph.specs.declared.depth_first.State.TheVariants.{Fresh, Open, Done}
use Rattle.digraph.specs.Cycle.{Leads, HasCycle}
use Rattle.digraph.specs.Order.{IsOrder}
use Rattle.digraph.specs.Descent.{Descent, state_at, put, entered, left, IsTop, IsDescent, LooksAt, IsStep, IsBack, IsRested, edge_of, cost_of, total_cost, KeepsBegun}
use Rattle.digraph.proofs.Places.{one_there, past_none}
use Rattle.digraph.proofs.OrderLaws.{contains_at}
use Rattle.digraph.proofs.DescentLaws.{fresh_within, open_within, written, entered_known, passed_known, left_known}
use Rattle.digraph.proofs.PathLaws.{path_closes}

-- ---- each step leaves fewer

-- a state that costs less makes all cost less
cheaper : (ss : List State) (rows : List (List ℕ)) (k : ℕ) (s : State) → k < length ss → length ss ≡ length rows
    → cost_of s (length (get_or rows k [])) < cost_of (get_or ss k Done) (length (get_or rows k [])) → total_cost (set ss k s) rows < total_cost ss rows
cheaper [] rows k s lt same less = absurd (omega arith)
cheaper (x ∷ ss) [] k s lt same less = absurd (omega arith)
cheaper (x ∷ ss) (row ∷ rows) zero s lt same less = omega (arith, less)
cheaper (x ∷ ss) (row ∷ rows) (suc k) s lt same less = omega (arith, cheaper ss rows k s (omega arith) (omega (arith, same)) less)

spends : (graph : List (List ℕ)) (d : Descent) (k : ℕ) (was s : State) → k < length d.states → length d.states ≡ length graph → state_at d k ≡ was
    → cost_of s (length (get_or graph k [])) < cost_of was (length (get_or graph k [])) → total_cost (set d.states k s) graph < total_cost d.states graph
spends graph d k was s lt width is less = cheaper d.states graph k s lt width (subst (λ w. cost_of s (length (get_or graph k [])) < cost_of w (length (get_or graph k []))) (sym is) less)

-- no node is fresh again where a state is written that isn't fresh
begun : (d : Descent) (k : ℕ) (s : State) → k < length d.states → (s ≡ Fresh → ⊥) → KeepsBegun d (put d k s)
begun d k s lt not_fresh j is = elim (written d.states k s j lt) [ inl h ↦ absurd (not_fresh (sym h.1 ∙ is)) | inr h ↦ sym h.1 ∙ is ]

-- ---- one step

top_open : (graph : List (List ℕ)) (d : Descent) (node edge : ℕ) → IsDescent graph d → IsTop d.path node → edge ≡ edge_of (state_at d node) → state_at d node ≡ Open edge
top_open graph d node edge known top is =
    let o = known.on_path node (contains_at d.path (length d.path - 1) node top) in
    let same : edge ≡ o.0 = is ∙ ap edge_of o.1 in
    o.1 ∙ ap Open (sym same)

-- the node at the path's end is one of the graph
pub top_within : (graph : List (List ℕ)) (d : Descent) (node : ℕ) → IsDescent graph d → IsTop d.path node → node < length d.states
top_within graph d node known top = open_within d.states node (edge_of (state_at d node)) (top_open graph d node (edge_of (state_at d node)) known top refl)

module _ (graph : List (List ℕ)) (old new : Descent) (node edge to : ℕ) (known : IsDescent graph old) (top : IsTop old.path node) (is_open : state_at old node ≡ Open edge)
    (there : slice_get (get_or graph node []) edge ≡ Some to) where
  step_enters : state_at old to ≡ Fresh → IsStep graph old (entered old to)
  step_enters fresh =
      let lt = fresh_within old.states to fresh in
      let leads : Leads graph node to = (omega (arith, known.width), contains_at (get_or graph node []) edge to there) in
      record {
        known = entered_known graph old known to fresh (λ a end. subst (λ x. Leads graph x to) (one_there old.path (length old.path - 1) node a top end) leads);
        begun = begun old to (Open 0) lt (λ e. cc);
        cheaper = spends graph old to Fresh (Open 0) lt known.width fresh (omega arith);
      }

  step_passes : state_at old to ≡ Done → IsStep graph old (put old node (Open (edge + 1)))
  step_passes done =
      let lt = open_within old.states node edge is_open in
      record {
        known = passed_known graph old known node edge to is_open there done;
        begun = begun old node (Open (edge + 1)) lt (λ e. cc);
        cheaper = spends graph old node (Open edge) (Open (edge + 1)) lt known.width is_open (omega (arith, slice_get_within (get_or graph node []) edge to there));
      }

  step_closes : (e : ℕ) → state_at old to ≡ Open e → HasCycle graph
  step_closes e is =
      let lt = open_within old.states to e is in
      path_closes graph old.path node to known.linked top (known.opened to e is) (omega (arith, known.width), contains_at (get_or graph node []) edge to there)

  step_by : (s : State) (goes_on : Bool) → state_at old to ≡ s → LooksAt s old node (edge + 1) to goes_on new → MatchBool goes_on (IsStep graph old new) (HasCycle graph)
  step_by Fresh goes_on is looked = rw (looked.0, looked.1) (step_enters is)
  step_by (Open e) goes_on is looked = rw (looked.0) (step_closes e is)
  step_by Done goes_on is looked = rw (looked.0, looked.1) (step_passes is)

-- a step from the path's end, where a successor is looked at
pub step_looks : (graph : List (List ℕ)) (old new : Descent) (node edge to : ℕ) (goes_on : Bool) → IsDescent graph old → IsTop old.path node
    → edge ≡ edge_of (state_at old node) → Some to ≡ slice_get (get_or graph node []) edge → LooksAt (state_at old to) old node (edge + 1) to goes_on new
    → MatchBool goes_on (IsStep graph old new) (HasCycle graph)
step_looks graph old new node edge to goes_on known top is there looked =
    step_by graph old new node edge to known top (top_open graph old node edge known top is) (sym there) (state_at old to) goes_on refl looked

-- a step from the path's end, whose successors are all passed
pub step_leaves : (graph : List (List ℕ)) (old new : Descent) (node edge : ℕ) → IsDescent graph old → IsTop old.path node
    → edge ≡ edge_of (state_at old node) → None ≡ slice_get (get_or graph node []) edge → new ≡ left old node → IsStep graph old new
step_leaves graph old new node edge known top is none new_is =
    let is_open = top_open graph old node edge known top is in
    let lt = top_within graph old node known top in
    rw new_is (record {
      known = left_known graph old known node edge top is_open (past_none (get_or graph node []) edge (λ x e. absurd (let f = none ∙ e in cc)));
      begun = begun old node Done lt (λ e. cc);
      cheaper = spends graph old node (Open edge) Done lt known.width is_open (omega arith);
    })

-- ---- one walk after the other

-- nothing is open where the path is empty
rest_done : (graph : List (List ℕ)) (d : Descent) (k : ℕ) → IsDescent graph d → d.path ≡ [] → (state_at d k ≡ Fresh → ⊥) → state_at d k ≡ Done
rest_done graph d k known empty begun = go (state_at d k) refl
  where
    go : (s : State) → state_at d k ≡ s → state_at d k ≡ Done
    go Fresh is = absurd (begun is)
    go (Open e) is = absurd (let on = subst (λ xs. Contains xs k) empty (known.opened k e is) in omega (arith, on.1))
    go Done is = is

-- a walk begins at a fresh node
pub root_known : (graph : List (List ℕ)) (root : ℕ) (old mid : Descent) → IsRested graph root old → state_at old root ≡ Fresh → mid ≡ entered old root → IsDescent graph mid
root_known graph root old mid rested fresh is =
    rw is (entered_known graph old rested.known root fresh (λ a top. absurd (let none = subst (λ xs. slice_get xs (length xs - 1) ≡ Some a) rested.empty top in cc)))

-- when it is back, one node more is done
root_rested : (graph : List (List ℕ)) (root : ℕ) (old mid new : Descent) → IsRested graph root old → state_at old root ≡ Fresh → mid ≡ entered old root → IsBack graph mid new → IsRested graph (root + 1) new
root_rested graph root old mid new rested fresh is back =
    let lt = fresh_within old.states root fresh in
    record {
      known = back.known;
      empty = back.empty;
      first = λ k below. rest_done graph new k back.known back.empty (λ f.
          let before : state_at (entered old root) k ≡ Fresh = subst (λ d. state_at d k ≡ Fresh) is (back.begun k f) in
          elim (written old.states root (Open 0) k lt) [
            | inl h ↦ absurd (let same : Open 0 ≡ Fresh = sym h.1 ∙ before in cc)
            | inr h ↦ absurd (let done = rested.first k (omega (arith, h.0)) in let same : Fresh ≡ Done = sym before ∙ h.1 ∙ done in cc)
          ]);
    }

pub root_back : (graph : List (List ℕ)) (root : ℕ) (old mid new : Descent) (acyclic : Bool) (C : Type 0) → IsRested graph root old → state_at old root ≡ Fresh → mid ≡ entered old root
    → MatchBool acyclic (IsBack graph mid new) C → MatchBool acyclic (IsRested graph (root + 1) new) C
root_back graph root old mid new true C rested fresh is back = root_rested graph root old mid new rested fresh is back
root_back graph root old mid new false C rested fresh is cycle = cycle

-- when every node is done they stand in order
pub rested_order : (graph : List (List ℕ)) (count : ℕ) (d : Descent) (order : List ℕ) → IsRested graph count d → count ≡ length graph → order ≡ d.order → IsOrder graph order
rested_order graph count d order rested all is =
    rw is (record {
      nodes = λ k on. (rested.known.in_order k on).0;
      whole = λ k node. rested.known.done k node (rested.first k (omega arith));
      once = rested.known.once;
      behind = rested.known.behind;
    })
