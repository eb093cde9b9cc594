-- Chains of constants in right declarations come to an end.
use Rattle.std.proofs.Common.{◌≡◌, ◌⊎◌, inl, inr, ℕ, zero, suc, ◌<◌, ◌≤◌, true, List, [], ◌∷◌, length, map, slice_get, Some, refl, sym, ap, ◌∙◌, subst, arith}
use Rattle.std.specs.List.{AllByRecursion, Contains}
use Rattle.std.specs.Option.{option_map}
use Rattle.std.proofs.lemmas.List.{length-map}
use Rattle.std.proofs.lemmas.Option.{slice_get-map, slice_get_within, get_or_from_slice_get}
use Rattle.digraph.specs.Cycle.{Leads}
use Rattle.digraph.proofs.WalkLaws.{IsWalk, IsOffCycles, walk_bounded}
use Rattle.fzn_check.specs.declared.fault.Fault.TheVariants.{FloatOrSet, IllTyped}
use Rattle.fzn_check.specs.Declares.{DeclaresFloatOrSet}
use Rattle.fzn_check.specs.DeclarationFaults.{is_constant, IsFine}
use Rattle.fzn_check.specs.Places.{places_of, successors, graph_of}
use Rattle.fzn_check.specs.WellTyped.{IsWellTyped}
use Rattle.fzn_check.proofs.PlaceLaws.{one_place_of}
use Rattle.fzn_symbols.specs.Named.{name_of, names_of, identifier_of, AreDifferent}
use Rattle.fzn_syntax.specs.declared.declaration.Declaration.{Declaration}

-- it isn't so that there is none
abbrev pub Likely : Type 0 → Type 0
Likely P = (P → ⊥) → ⊥

-- ---- right declarations

module _ (ds : List Declaration) (different : AreDifferent (names_of ds)) (fine : IsFine ds) where
  pub no_float : (k : ℕ) (d : Declaration) → slice_get ds k ≡ Some d → DeclaresFloatOrSet ds d → ⊥
  no_float k d at h = fine k (FloatOrSet (identifier_of d).at) (d, at, (h, refl))

  pub likely_typed : (k : ℕ) (d : Declaration) → slice_get ds k ≡ Some d → Likely (IsWellTyped ds d)
  likely_typed k d at not = fine k (IllTyped (identifier_of d).at) (d, at, (no_float k d at, inl not, refl))

  within_graph : (k : ℕ) (d : Declaration) → slice_get ds k ≡ Some d → k < length (graph_of ds)
  within_graph k d at = subst (λ n. k < n) (sym (length-map ds (successors ds))) (slice_get_within ds k d at)

  off_cycles : (k : ℕ) (d : Declaration) → slice_get ds k ≡ Some d → is_constant d ≡ true → IsOffCycles (graph_of ds) k
  off_cycles k d at is =
      let constant : slice_get (map is_constant ds) k ≡ Some true = slice_get-map is_constant ds k ∙ ap (option_map is_constant) at ∙ ap Some is in
      (within_graph k d at, λ cycle. fine k (IllTyped (identifier_of d).at) (d, at, (no_float k d at, inr (constant, cycle), refl)))

  -- a declaration leads to the one that its value names
  pub leads : (k j : ℕ) (d e : Declaration) (n : List ℕ) → slice_get ds k ≡ Some d → successors ds d ≡ places_of ds n → slice_get ds j ≡ Some e → name_of e ≡ n → Leads (graph_of ds) k j
  leads k j d e n at follows there named =
      let row : slice_get (graph_of ds) k ≡ Some (j ∷ []) =
      slice_get-map (successors ds) ds k ∙ ap (option_map (successors ds)) at ∙ ap Some (follows ∙ one_place_of ds n j different (e, there, named)) in
      let here : Contains (j ∷ []) j = (0, omega arith, refl) in
      (within_graph j e there, subst (λ js. Contains js j) (sym (get_or_from_slice_get (graph_of ds) k (j ∷ []) [] row)) here)

  -- a walk of so many steps
  abbrev Walks : ℕ → ℕ → Type 0
  Walks k n = (xs : List ℕ) × (length xs ≡ n) × IsWalk (graph_of ds) k xs × AllByRecursion (IsOffCycles (graph_of ds)) xs

  -- what one more step of a chain comes to: its end, or another constant of the same kind, whose end is this one's too
  abbrev pub Steps : (Declaration → Type 0) → (Declaration → Type 0) → ℕ → Declaration → Type 0
  Steps C P k d = P d ⊎ ((j : ℕ) × (e : Declaration) × (slice_get ds j ≡ Some e) × C e × Leads (graph_of ds) k j × (P e → P d))

  module _ (C P : Declaration → Type 0) (constant : (d : Declaration) → C d → is_constant d ≡ true) (step : (k : ℕ) (d : Declaration) → slice_get ds k ≡ Some d → C d → Likely (Steps C P k d)) where
    walks : (n k : ℕ) (d : Declaration) → slice_get ds k ≡ Some d → C d → (P d → ⊥) → (Walks k n → ⊥) → ⊥
    walks zero k d at is none short = short ([], refl, tt, tt)
    walks (suc n) k d at is none short =
        step k d at is (λ s. elim s [
          | inl end ↦ none end
          | inr more ↦ walks n more.0 more.1 more.2 more.3 (λ p. none (more.5 p))
              (λ w. short (more.0 ∷ w.0, ap suc w.1, (more.4, w.2), (off_cycles more.0 more.1 more.2 (constant more.1 more.3), w.3)))
        ])

    pub ends : (k : ℕ) (d : Declaration) → slice_get ds k ≡ Some d → C d → Likely (P d)
    ends k d at is none = walks (suc (length ds)) k d at is none (λ w. too_long w.0 w.1 (walk_bounded (graph_of ds) k w.0 w.2 w.3))
      where
        too_long : (xs : List ℕ) → length xs ≡ suc (length ds) → length xs ≤ length (graph_of ds) → ⊥
        too_long xs size within = let few : length xs ≤ length ds = subst (λ n. length xs ≤ n) (length-map ds (successors ds)) within in omega (arith, size, few)
