-- The nodes that a node depends on, along an order.
use Rattle.std.proofs.Common.{◌≡◌, ◌⊎◌, ◌↔◌, inl, inr, ℕ, zero, suc, ◌+◌, ◌<◌, ◌≤◌, Bool, true, false, List, [], ◌∷◌, ◌++◌, length, take, get_or, set, replicate, slice_get, Some, refl, sym, ◌∙◌, ap, subst, arith}
use Rattle.std.specs.List.{Contains}
use Rattle.std.proofs.lemmas.Bool.{cases_eq}
use Rattle.std.proofs.lemmas.List.{length-set, length-replicate, get_or-set_same, get_or-set_other, take_more, take_all, get_or_default}
use Rattle.std.proofs.lemmas.List.Elements.{Contains-get_or}
use Rattle.std.proofs.lemmas.Option.{slice_get_read}
use Rattle.digraph.specs.Cycle.{IsPath, Leads, Reaches}
use Rattle.digraph.specs.Order.{IsOrder}
use Rattle.incidence.proofs.ContainsLaws.{contains_none, push_cases, taken_at}
use Rattle.incidence.proofs.SelectionLaws.{met_none, selections_next, selections_none}
use Rattle.incidence.specs.Dependents.{AreDependents, DependsOn, IsAsked}
use Rattle.incidence.specs.Meeting.{HasSource, Meets, SuccessorHasSource}
use Rattle.incidence.specs.Selection.{AreSelections}

path_node : (graph : List (List ℕ)) (a : ℕ) (through : List ℕ) (b : ℕ) → IsPath graph a through b → b < length graph
path_node graph a [] b path = path.0
path_node graph a (x ∷ xs) b path = path_node graph x xs b path.1

-- for each of these nodes there are those that are asked for and on which it depends
pub record AreSources (graph : List (List ℕ)) (among : List Bool) (done : List ℕ) (sources : List (List ℕ)) : Type 0 where
  pub whole : length sources ≡ length graph
  pub at : (node : ℕ) → Contains done node → (x : ℕ) → Contains (get_or sources node []) x ↔ DependsOn graph among node x

module _ (graph : List (List ℕ)) (among : List Bool) (done : List ℕ) (sources : List (List ℕ)) (known : AreSources graph among done sources) (node : ℕ)
    (behind : (next : ℕ) → Leads graph node next → Contains done next) where
  source_leads : (x : ℕ) → SuccessorHasSource sources among (get_or graph node []) x → DependsOn graph among node x
  source_leads x h =
      let leads : Leads graph node h.0 = (omega (arith, h.2.0, known.whole), h.1) in
      elim h.2.1 [
        | inl itself ↦ subst (DependsOn graph among node) (sym itself.0) (([], leads), itself.1)
        | inr far ↦ (let rest = (known.at h.0 (behind h.0 leads) x).0 far in ((h.0 ∷ rest.0.0, (leads, rest.0.1)), rest.1))
      ]

  leads_source : (x : ℕ) (through : List ℕ) → IsPath graph node through x → IsAsked among x → SuccessorHasSource sources among (get_or graph node []) x
  leads_source x [] path asked = (x, path.1, (omega (arith, path.0, known.whole), inl (refl, asked)))
  leads_source x (next ∷ through) path asked =
      (next, path.0.1, (omega (arith, path.0.0, known.whole), inr ((known.at next (behind next path.0) x).1 ((through, path.1), asked))))

  -- a node depends on the sources of its successors
  source_same : (x : ℕ) → SuccessorHasSource sources among (get_or graph node []) x ↔ DependsOn graph among node x
  source_same x = (source_leads x, λ d. leads_source x d.0.0 d.0.1 d.1)

-- the sources so far, and the dependents
pub record AreFound (graph : List (List ℕ)) (among : List Bool) (done : List ℕ) (sources dependents : List (List ℕ)) : Type 0 where
  pub known : AreSources graph among done sources
  pub listed : AreSelections done (DependsOn graph among) (length graph) dependents

pub found_none : (graph : List (List ℕ)) (among : List Bool) → AreFound graph among [] (replicate (length graph) []) (replicate (length graph) [])
found_none graph among = record {
  known = record { whole = length-replicate (length graph) []; at = λ node has. absurd (contains_none node has) };
  listed = selections_none (DependsOn graph among) (length graph);
}

module _ (graph : List (List ℕ)) (order : List ℕ) (among : List Bool) (ordered : IsOrder graph order) (i node : ℕ) (lt : i < length order) (read : node ≡ get_or order i node) where
  here : slice_get order i ≡ Some node
  here = slice_get_read order (length order) i node refl lt read

  pub ordered_below : node < length graph
  ordered_below = ordered.nodes node (i, lt, sym read)

  apart : Contains (take i order) node → ⊥
  apart has =
      let before = taken_at order i node has in
      let same : before.0 ≡ i = ordered.once before.0 i node before.2 here in
      absurd (omega (arith, before.1, same))

  behind_it : (next : ℕ) → Leads graph node next → Contains (take i order) next
  behind_it next leads = ordered.behind i next lt (subst (λ (k : ℕ). Leads graph k next) (read ∙ get_or_default order i node 0 lt) leads)

  order_next : take (i + 1) order ≡ take i order ++ node ∷ []
  order_next = take_more order i node lt ∙ ap (λ (k : ℕ). take i order ++ k ∷ []) (sym read)

  module _ (sources old new : List (List ℕ)) (met : List ℕ) (found : AreFound graph among (take i order) sources old)
      (meets : Meets node (SuccessorHasSource sources among (get_or graph node [])) [] old met new) where
    same_here : (x : ℕ) → SuccessorHasSource sources among (get_or graph node []) x ↔ DependsOn graph among node x
    same_here = source_same graph among (take i order) sources found.known node behind_it

    met_those : (x : ℕ) → Contains met x ↔ DependsOn graph among node x
    met_those x =
        let adds = (meets old (met_none (DependsOn graph among) (take i order) (length graph) node (SuccessorHasSource sources among (get_or graph node [])) met old new found.listed apart)).1 x in (
          λ has. elim (adds.0 has) [ inl a ↦ absurd (contains_none x a) | inr b ↦ (same_here x).0 b.0 ],
          λ d. adds.1 (inr ((same_here x).1 d, (let below = path_node graph node d.0.0 x d.0.1 in omega (arith, below, found.listed.whole)))),
        )

    sources_next : AreSources graph among (take i order ++ node ∷ []) (set sources node met)
    sources_next = record {
      whole = length-set sources node met ∙ found.known.whole;
      at = λ k has x. elim (cases_eq k node) [
        | inl same ↦ subst (λ (j : ℕ). Contains (get_or (set sources node met) j []) x ↔ DependsOn graph among j x) (sym same)
            (subst (λ (xs : List ℕ). Contains xs x ↔ DependsOn graph among node x) (sym (get_or-set_same sources node met [] (omega (arith, ordered_below, found.known.whole)))) (met_those x))
        | inr other ↦ subst (λ (xs : List ℕ). Contains xs x ↔ DependsOn graph among k x) (sym (get_or-set_other sources node k met [] other))
            (found.known.at k (elim (push_cases (take i order) node k has) [ inl a ↦ a | inr b ↦ absurd (other b) ]) x)
      ];
    }

    -- one node more
    pub found_next : AreFound graph among (take (i + 1) order) (set sources node met) new
    found_next = subst (λ (done : List ℕ). AreFound graph among done (set sources node met) new) (sym order_next) (record {
      known = sources_next;
      listed = selections_next (DependsOn graph among) (take i order) (length graph) node (SuccessorHasSource sources among (get_or graph node [])) met old new found.listed apart meets
          (λ x below. same_here x);
    })

-- one node more, in the words of the calls
pub found_step : (graph : List (List ℕ)) (order : List ℕ) (among : List Bool) (ordered : IsOrder graph order) (i node : ℕ) (lt : i < length order) (read : node ≡ get_or order i node)
    (sources old new stored : List (List ℕ)) (row start met : List ℕ) → AreFound graph among (take i order) sources old → row ≡ get_or graph node [] → start ≡ [] → stored ≡ set sources node met
    → Meets node (SuccessorHasSource sources among row) start old met new → AreFound graph among (take (i + 1) order) stored new
found_step graph order among ordered i node lt read sources old new stored row start met found here none kept meets =
    subst (λ (s : List (List ℕ)). AreFound graph among (take (i + 1) order) s new) (sym kept)
    (found_next graph order among ordered i node lt read sources old new met found
    (subst (λ (xs : List ℕ). Meets node (SuccessorHasSource sources among xs) [] old met new) here
    (subst (λ (m : List ℕ). Meets node (SuccessorHasSource sources among row) m old met new) none meets)))

pub found_all : (graph : List (List ℕ)) (order : List ℕ) (among : List Bool) (i : ℕ) (sources dependents : List (List ℕ)) → length order ≤ i
    → AreFound graph among (take i order) sources dependents → AreDependents graph order among dependents
found_all graph order among i sources dependents le found = subst (λ (done : List ℕ). AreSelections done (DependsOn graph among) (length graph) dependents) (take_all i order le) found.listed

-- ---- the sources of successors, one successor more

pub no_successor : (sources : List (List ℕ)) (among : List Bool) (x : ℕ) → SuccessorHasSource sources among [] x → ⊥
no_successor sources among x h = contains_none h.0 h.1

pub successors_next : (sources : List (List ℕ)) (among : List Bool) (xs ys : List ℕ) (node x : ℕ) → ((k : ℕ) → Contains ys k ↔ (Contains xs k ⊎ (k ≡ node)))
    → SuccessorHasSource sources among ys x ↔ (SuccessorHasSource sources among xs x ⊎ HasSource sources among node x)
successors_next sources among xs ys node x next = (
  λ h. elim ((next h.0).0 h.1) [
    | inl a ↦ inl (h.0, a, h.2)
    | inr b ↦ inr (subst (λ (k : ℕ). HasSource sources among k x) b h.2)
  ],
  λ c. elim c [
    | inl a ↦ (a.0, (next a.0).1 (inl a.1), a.2)
    | inr b ↦ (node, (next node).1 (inr refl), b)
  ],
)

-- what is read of a node
pub source_cases : (sources : List (List ℕ)) (among : List Bool) (node : ℕ) (asked : Bool) (row : List ℕ) → node < length among → length among ≡ length sources
    → asked ≡ get_or among node asked → row ≡ get_or sources node [] → (x : ℕ) → HasSource sources among node x ↔ (((x ≡ node) × (asked ≡ true)) ⊎ Contains row x)
source_cases sources among node asked row lt whole read here x =
    let mark : asked ≡ get_or among node false = read ∙ get_or_default among node asked false lt in (
      λ h. elim h.1 [
        | inl itself ↦ inl (itself.0, mark ∙ itself.1)
        | inr far ↦ inr (subst (λ (xs : List ℕ). Contains xs x) (sym here) far)
      ],
      λ c. (
        omega (arith, lt, whole),
        elim c [
          | inl itself ↦ inl (itself.0, sym mark ∙ itself.1)
          | inr far ↦ inr (subst (λ (xs : List ℕ). Contains xs x) here far)
        ],
      ),
    )
