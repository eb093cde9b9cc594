-- A search from the successors of a node meets what the node reaches, and when it is done nothing else is reached.
use Rattle.std.proofs.Common.{◌≡◌, ◌↔◌, inl, inr, ℕ, zero, suc, ◌+◌, ◌-◌, ◌<◌, ◌≤◌, Bool, true, false, List, [], ◌∷◌, ◌++◌, length, get_or, set, slice_get, replicate, Some, refl, sym, ap, ◌∙◌, subst, arith}
use Rattle.std.specs.List.{Contains}
use Rattle.std.proofs.lemmas.Bool.{cases_lt}
use Rattle.std.proofs.lemmas.List.{length-set, length-replicate, get_or-replicate, length_push}
use Rattle.std.proofs.lemmas.Option.{slice_get_within}
use Rattle.digraph.specs.Cycle.{Leads, IsPath, Reaches, IsOnCycle}
use Rattle.digraph.specs.Met.{Met, is_met, met_with, met_with_all}
use Rattle.digraph.proofs.MetLaws.{set_stays, set_here, set_only, down_within, fresh_of, by_cases, AllMet, all_stay, all_order, all_met, weight_of, all_weight}
use Rattle.digraph.proofs.Places.{one_there, there_left, there_last, there_cases, past_none}

-- what is known while the first so many of the nodes that were met are done
pub record IsSearch (graph : List (List ℕ)) (k : ℕ) (m : Met) (done : ℕ) : Type 0 where
  pub width : length m.seen ≡ length graph
  pub within : done ≤ length m.order
  pub sound : (t : ℕ) → t < length graph → is_met m t ≡ true → Reaches graph k t
  pub listed : (t : ℕ) → t < length graph → is_met m t ≡ true → (i : ℕ) × (slice_get m.order i ≡ Some t)
  pub nodes : (i t : ℕ) → slice_get m.order i ≡ Some t → (t < length graph) × (is_met m t ≡ true)
  pub closed : (i t : ℕ) → i < done → slice_get m.order i ≡ Some t → AllMet m (get_or graph t [])

-- ---- paths

leads_on : (graph : List (List ℕ)) (a b c : ℕ) (xs : List ℕ) → IsPath graph a xs b → Leads graph b c → IsPath graph a (xs ++ b ∷ []) c
leads_on graph a b c [] path leads = (path, leads)
leads_on graph a b c (x ∷ xs) path leads = (path.0, leads_on graph x b c xs path.1 leads)

pub reaches_on : (graph : List (List ℕ)) (a b c : ℕ) → Reaches graph a b → Leads graph b c → Reaches graph a c
reaches_on graph a b c reaches leads = (reaches.0 ++ b ∷ [], leads_on graph a b c reaches.0 reaches.1 leads)

pub reaches_at : (graph : List (List ℕ)) (a b : ℕ) → Leads graph a b → Reaches graph a b
reaches_at graph a b leads = ([], leads)

-- ---- at the start

down_everywhere : (n t : ℕ) → t < n → get_or (replicate n false) t true ≡ true → ⊥
down_everywhere n t lt e = absurd (let f = get_or-replicate n t false true lt in cc)

start_known : (graph : List (List ℕ)) (k : ℕ) (m : Met) (n : ℕ) → n ≡ length graph → m.seen ≡ replicate n false → m.order ≡ [] → IsSearch graph k m 0
start_known graph k m n count seen order =
    let none : (t : ℕ) → t < length graph → is_met m t ≡ true → ⊥ = λ t lt e. down_everywhere n t (omega arith) (subst (λ bs. get_or bs t true ≡ true) seen e) in
    record {
      width = ap length seen ∙ length-replicate n false ∙ count;
      within = omega arith;
      sound = λ t lt e. absurd (none t lt e);
      listed = λ t lt e. absurd (none t lt e);
      nodes = λ i t e. absurd (let f = subst (λ xs. slice_get xs i ≡ Some t) order e in cc);
      closed = λ i t lt e. absurd (omega arith);
    }

-- ---- nodes are met

fresh_known : (graph : List (List ℕ)) (k : ℕ) (m : Met) (done t : ℕ) → IsSearch graph k m done → (t < length graph → Reaches graph k t) → is_met m t ≡ false → IsSearch graph k (fresh_of m t) done
fresh_known graph k m done t known reached fresh =
    let node : t < length graph = omega (arith, down_within m.seen t fresh, known.width) in
    record {
      width = length-set m.seen t true ∙ known.width;
      within = omega (arith, known.within, length_push m.order t);
      sound = λ u lt e. elim (set_only m.seen t u e) [ inl h ↦ known.sound u lt h | inr is ↦ subst (Reaches graph k) is (reached node) ];
      listed = λ u lt e. elim (set_only m.seen t u e) [
        | inl h ↦ (let there = known.listed u lt h in (there.0, there_left m.order (t ∷ []) there.0 u there.1))
        | inr is ↦ (length m.order, there_last m.order t ∙ ap Some is)
      ];
      nodes = λ i u e. elim (there_cases m.order t u i e) [
        | inl h ↦ (let node = known.nodes i u h in (node.0, set_stays m.seen t u node.1))
        | inr is ↦ (subst (λ v. v < length graph) is.1 node, subst (λ v. get_or (set m.seen t true) v true ≡ true) is.1 (set_here m.seen t))
      ];
      closed = λ i u lt e v h. elim (there_cases m.order t u i e) [
        | inl there ↦ set_stays m.seen t v (known.closed i u lt there v h)
        | inr is ↦ absurd (omega (arith, known.within, is.0))
      ];
    }

with_known : (graph : List (List ℕ)) (k : ℕ) (m : Met) (done t : ℕ) → IsSearch graph k m done → (t < length graph → Reaches graph k t) → IsSearch graph k (met_with m t) done
with_known graph k m done t known reached = by_cases (λ n. IsSearch graph k n done) m t (λ e. known) (fresh_known graph k m done t known reached)

pub all_known : (graph : List (List ℕ)) (k : ℕ) (m : Met) (done : ℕ) (ts : List ℕ) → IsSearch graph k m done → ((t : ℕ) → Contains ts t → t < length graph → Reaches graph k t) → IsSearch graph k (met_with_all m ts) done
all_known graph k m done [] known reached = known
all_known graph k m done (t ∷ ts) known reached =
    all_known graph k (met_with m t) done ts (with_known graph k m done t known (reached t (zero, omega arith, refl)))
    (λ u h. reached u (suc h.0, omega (arith, h.1), h.2))

-- ---- one node more is done

pub step_known : (graph : List (List ℕ)) (k : ℕ) (m : Met) (done t : ℕ) → IsSearch graph k m done → slice_get m.order done ≡ Some t → IsSearch graph k (met_with_all m (get_or graph t [])) (done + 1)
step_known graph k m done t known there =
    let row = get_or graph t [] in
    let node = known.nodes done t there in
    let more = all_known graph k m done row known (λ u h lt. reaches_on graph k t u (known.sound t node.0 node.1) (lt, h)) in
    let still = all_order m row done t there in
    record {
      width = more.width;
      within = omega (arith, slice_get_within (met_with_all m row).order done t still);
      sound = more.sound;
      listed = more.listed;
      nodes = more.nodes;
      closed = λ i u lt e. elim (cases_lt i done) [
        | inl below ↦ more.closed i u below e
        | inr past ↦ (let same : u ≡ t = one_there (met_with_all m row).order done u t (subst (λ j. slice_get (met_with_all m row).order j ≡ Some u) (omega arith) e) still in
            subst (λ v. AllMet (met_with_all m row) (get_or graph v [])) (sym same) (all_met m row))
      ];
    }

-- ---- at the end

follows : (graph : List (List ℕ)) (k : ℕ) (m : Met) (done : ℕ) → IsSearch graph k m done → length m.order ≤ done
    → (a : ℕ) (xs : List ℕ) (b : ℕ) → AllMet m (get_or graph a []) → IsPath graph a xs b → is_met m b ≡ true
follows graph k m done known all a [] b met path = met b path.1
follows graph k m done known all a (x ∷ xs) b met path =
    let there = known.listed x path.0.0 (met x path.0.1) in
    follows graph k m done known all x xs b (known.closed there.0 x (omega (arith, slice_get_within m.order there.0 x there.1)) there.1) path.1

end_known : (graph : List (List ℕ)) (k : ℕ) (m : Met) (done : ℕ) → k < length graph → IsSearch graph k m done → length m.order ≤ done → AllMet m (get_or graph k [])
    → (is_met m k ≡ true) ↔ IsOnCycle graph k
end_known graph k m done node known end met = (
  known.sound k node,
  λ cycle. follows graph k m done known end k cycle.0 k met cycle.1,
)

-- ---- the search

-- the successors of the node are met, and this is known
pub record IsSearching (graph : List (List ℕ)) (k : ℕ) (m : Met) (done : ℕ) : Type 0 where
  pub known : IsSearch graph k m done
  pub first : AllMet m (get_or graph k [])

pub begins : (graph : List (List ℕ)) (k : ℕ) (m : Met) (n : ℕ) → n ≡ length graph → m.seen ≡ replicate n false → m.order ≡ [] → IsSearching graph k (met_with_all m (get_or graph k [])) 0
begins graph k m n count seen order = record {
  known = all_known graph k m 0 (get_or graph k []) (start_known graph k m n count seen order) (λ t h lt. reaches_at graph k t (lt, h));
  first = all_met m (get_or graph k []);
}

pub goes_on : (graph : List (List ℕ)) (k : ℕ) (m : Met) (done t : ℕ) → IsSearching graph k m done → slice_get m.order done ≡ Some t → IsSearching graph k (met_with_all m (get_or graph t [])) (done + 1)
goes_on graph k m done t searching there = record {
  known = step_known graph k m done t searching.known there;
  first = λ u h. all_stay m (get_or graph t []) u (searching.first u h);
}

-- the loop's turn, as the calls tell it
pub turn : (graph : List (List ℕ)) (k : ℕ) (m new : Met) (done t : ℕ) (row : List ℕ) → IsSearching graph k m done → slice_get m.order done ≡ Some t → row ≡ get_or graph t [] → new ≡ met_with_all m row
    → IsSearching graph k new (done + 1) × (weight_of new - (done + 1) < weight_of m - done)
turn graph k m new done t row searching there row_is is =
    let more = slice_get_within m.order done t there in
    let made = is ∙ ap (met_with_all m) row_is in
    let weight : weight_of new ≡ weight_of m = ap weight_of made ∙ all_weight m (get_or graph t []) in
    (subst (λ n. IsSearching graph k n (done + 1)) (sym made) (goes_on graph k m done t searching there), omega arith)

pub is_decided : (graph : List (List ℕ)) (k : ℕ) (m : Met) (done : ℕ) (b : Bool) → k < length graph → IsSearching graph k m done → ((t : ℕ) → slice_get m.order done ≡ Some t → ⊥) → b ≡ is_met m k → (b ≡ true) ↔ IsOnCycle graph k
is_decided graph k m done b node searching none is =
    let decided = end_known graph k m done node searching.known (past_none m.order done none) searching.first in
    (λ e. decided.0 (sym is ∙ e), λ cycle. is ∙ decided.1 cycle)
