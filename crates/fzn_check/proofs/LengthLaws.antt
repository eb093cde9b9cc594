-- An array that is declared without fault is as long as some list that is written in the text.
use Rattle.std.proofs.Common.{◌≡◌, ◌⊎◌, inl, inr, ℕ, zero, suc, ◌+◌, ◌<◌, ◌≤◌, ℤ, pos, true, List, [], ◌∷◌, length, map, slice_get, get_or, Option, Some, refl, sym, ap, ◌∙◌, subst, arith}
use Rattle.std.specs.List.{AllByRecursion, Contains}
use Rattle.std.specs.Option.{option_map}
use Rattle.std.proofs.lemmas.Int.{ints}
use Rattle.std.proofs.lemmas.List.{length-map}
use Rattle.std.proofs.lemmas.Option.{slice_get-map, slice_get_within, get_or_from_slice_get}
use Rattle.digraph.specs.Cycle.{Leads, IsOnCycle}
use Rattle.digraph.proofs.WalkLaws.{IsWalk, IsOffCycles, walk_bounded}
use Rattle.fzn_syntax.specs.declared.declaration.Declaration.{Declaration}
use Rattle.fzn_syntax.specs.declared.declaration.Declaration.TheVariants as declarations
use Rattle.fzn_syntax.specs.declared.declaration.ParameterArray.{ParameterArray}
use Rattle.fzn_syntax.specs.declared.declaration.VariableArray.{VariableArray}
use Rattle.fzn_syntax.specs.declared.identifier.Identifier.{Identifier}
use Rattle.fzn_syntax.specs.declared.expression.Basic.{Basic}
use Rattle.fzn_syntax.specs.declared.expression.Basic.TheVariants as basics
use Rattle.fzn_syntax.specs.declared.expression.Expression.{Expression}
use Rattle.fzn_syntax.specs.declared.expression.Expression.TheVariants as expressions
use Rattle.fzn_symbols.specs.declared.base.Base.{Base}
use Rattle.fzn_symbols.specs.declared.typing.Instantiation.TheVariants as instantiations
use Rattle.fzn_symbols.specs.Bases.{base_of_parameter, base_of_variable}
use Rattle.fzn_symbols.specs.Named.{names_of, identifier_of, AreDifferent, IsNamed}
use Rattle.fzn_check.specs.declared.fault.Fault.TheVariants.{FloatOrSet, IllTyped}
use Rattle.fzn_check.specs.Declares.{DeclaresFloatOrSet}
use Rattle.fzn_check.specs.DeclarationFaults.{is_constant, DependsOnItself, IsFine}
use Rattle.fzn_check.specs.Places.{places_of, named_in, successors, graph_of}
use Rattle.fzn_check.specs.WellTyped.{AreEntries, IsParameters, IsArray, AreConstants, IsWellTyped}
use Rattle.fzn_check.specs.Values.{value_of}
use Rattle.fzn_check.proofs.PlaceLaws.{one_place_of}

pub short_or_long : (m n : ℕ) → (m ≤ n) ⊎ (n < m)
short_or_long zero n = inl (omega arith)
short_or_long (suc m) zero = inr (omega arith)
short_or_long (suc m) (suc n) = elim (short_or_long m n) [ inl h ↦ inl (omega (arith, h)) | inr h ↦ inr (omega (arith, h)) ]

module _ (ds : List Declaration) (most : ℕ) (different : AreDifferent (names_of ds)) (fine : IsFine ds)
    (written : (k : ℕ) (d : Declaration) (bs : List Basic) → slice_get ds k ≡ Some d → value_of d ≡ Some (expressions.List bs) → length bs ≤ most) where
  -- what a declaration without fault is not
  no_float : (k : ℕ) (d : Declaration) → slice_get ds k ≡ Some d → DeclaresFloatOrSet ds d → ⊥
  no_float k d at h = fine k (FloatOrSet (identifier_of d).at) (d, at, (h, refl))

  is_well_typed : (k : ℕ) (d : Declaration) → slice_get ds k ≡ Some d → (IsWellTyped ds d → ⊥) → ⊥
  is_well_typed k d at not = fine k (IllTyped (identifier_of d).at) (d, at, (no_float k d at, inl not, refl))

  within_graph : (k : ℕ) (d : Declaration) → slice_get ds k ≡ Some d → k < length (graph_of ds)
  within_graph k d at = subst (λ n. k < n) (sym (length-map ds (successors ds))) (slice_get_within ds k d at)

  off_cycles : (k : ℕ) (a : ParameterArray) → slice_get ds k ≡ Some (declarations.ParameterArray a) → IsOffCycles (graph_of ds) k
  off_cycles k a at =
      let d = declarations.ParameterArray a in
      let constant : slice_get (map is_constant ds) k ≡ Some true = slice_get-map is_constant ds k ∙ ap (option_map is_constant) at in
      (within_graph k d at, λ cycle. fine k (IllTyped (identifier_of d).at) (d, at, (no_float k d at, inr (constant, cycle), refl)))

  -- an array of parameters leads to the one that its value names
  leads : (k j : ℕ) (a b : ParameterArray) (n : List ℕ) → slice_get ds k ≡ Some (declarations.ParameterArray a) → successors ds (declarations.ParameterArray a) ≡ places_of ds n
      → slice_get ds j ≡ Some (declarations.ParameterArray b) → b.entries.name.name ≡ n → Leads (graph_of ds) k j
  leads k j a b n at follows there named =
      let row : slice_get (graph_of ds) k ≡ Some (j ∷ []) =
      slice_get-map (successors ds) ds k ∙ ap (option_map (successors ds)) at ∙ ap Some (follows ∙ one_place_of ds n j different (declarations.ParameterArray b, there, named)) in
      let here : Contains (j ∷ []) j = (0, omega arith, refl) in
      (within_graph j (declarations.ParameterArray b) there, subst (λ js. Contains js j) (sym (get_or_from_slice_get (graph_of ds) k (j ∷ []) [] row)) here)

  -- a walk of so many steps
  abbrev Walks : ℕ → ℕ → Type 0
  Walks k n = (xs : List ℕ) × (length xs ≡ n) × IsWalk (graph_of ds) k xs × AllByRecursion (IsOffCycles (graph_of ds)) xs

  too_short : (m : ℕ) (bs : List Basic) → pos m ≡ pos (length bs) → length bs ≤ most → most < m → ⊥
  too_short m bs same short long = omega (arith, ints, same, short, long)

  module _ (k m : ℕ) (a : ParameterArray) (base : Base) (at : slice_get ds k ≡ Some (declarations.ParameterArray a)) (last : a.index.last ≡ pos m) (long : most < m)
      (next : (j : ℕ) (b : ParameterArray) → slice_get ds j ≡ Some (declarations.ParameterArray b) → b.index.last ≡ pos m → Leads (graph_of ds) k j → ⊥) where
    by_target : (n : Identifier) (d : Declaration) → a.entries.value ≡ expressions.Basic (basics.Name n) → IsNamed ds n.name d → IsParameters base a.index.last d → ⊥
    by_target n (declarations.ParameterArray b) is named h = next named.0 b named.1 (h.1 ∙ last) (leads k named.0 a b n.name at (ap (named_in ds) is) named.1 named.2)
    by_target n (declarations.Parameter p) is named h = absurd h
    by_target n (declarations.Variable v) is named h = absurd h
    by_target n (declarations.VariableArray v) is named h = absurd h

    by_basic : (b : Basic) → a.entries.value ≡ expressions.Basic b → IsArray ds base a.index.last b → ⊥
    by_basic (basics.Name n) is h = by_target n h.0 is h.1 h.2
    by_basic basics.True is h = absurd h
    by_basic basics.False is h = absurd h
    by_basic (basics.Number z) is h = absurd h
    by_basic (basics.Range r) is h = absurd h
    by_basic (basics.Set zs) is h = absurd h

    by_constants : (v : Expression) → a.entries.value ≡ v → AreConstants ds base a.index.last v → ⊥
    by_constants (expressions.Basic b) is h = by_basic b is h
    by_constants (expressions.List bs) is h = too_short m bs (sym last ∙ h.0) (written k (declarations.ParameterArray a) bs at (ap Some is)) long

  walks : (n k m : ℕ) (a : ParameterArray) → slice_get ds k ≡ Some (declarations.ParameterArray a) → a.index.last ≡ pos m → most < m → (Walks k n → ⊥) → ⊥
  walks zero k m a at last long none = none ([], refl, tt, tt)
  walks (suc n) k m a at last long none =
      is_well_typed k (declarations.ParameterArray a) at (λ right.
      by_constants k m a (base_of_parameter a.entries.element) at last long
      (λ j b there same edge. walks n j m b there same long (λ w. none (j ∷ w.0, ap suc w.1, (edge, w.2), (off_cycles j b there, w.3))))
      a.entries.value refl right.1)

  -- so no array of parameters is longer than the lists
  pub parameters_short : (k m : ℕ) (a : ParameterArray) → slice_get ds k ≡ Some (declarations.ParameterArray a) → a.index.last ≡ pos m → m ≤ most
  parameters_short k m a at last =
      elim (short_or_long m most) [
        | inl short ↦ short
        | inr long ↦ absurd (walks (suc (length ds)) k m a at last long (λ w. too_long w.0 w.1 (walk_bounded (graph_of ds) k w.0 w.2 w.3)))
      ]
    where
      too_long : (xs : List ℕ) → length xs ≡ suc (length ds) → length xs ≤ length (graph_of ds) → ⊥
      too_long xs size within = let few : length xs ≤ length ds = subst (λ n. length xs ≤ n) (length-map ds (successors ds)) within in omega (arith, size, few)

  -- nor is an array of variables
  pub variables_short : (k m : ℕ) (a : VariableArray) → slice_get ds k ≡ Some (declarations.VariableArray a) → a.index.last ≡ pos m → m ≤ most
  variables_short k m a at last =
      elim (short_or_long m most) [
        | inl short ↦ short
        | inr long ↦ absurd (is_well_typed k (declarations.VariableArray a) at (λ right. by_entries (base_of_variable a.element) long a.value refl right.1))
      ]
    where
      by_entries : (base : Base) → most < m → (v : Expression) → a.value ≡ v → AreEntries ds instantiations.Entry base a.index.last v → ⊥
      by_entries base long (expressions.Basic b) is h = absurd h
      by_entries base long (expressions.List bs) is h = too_short m bs (sym last ∙ h.0) (written k (declarations.VariableArray a) bs at (ap Some is)) long
