-- The definers of a draft whose definitions have an order are constraints that give their variables their values.
use Rattle.std.proofs.Common.{◌≡◌, ℕ, zero, suc, ◌==◌, ◌+◌, ◌<◌, ◌≤◌, Bool, true, false, List, [], ◌∷◌, length, get_or, refl, sym, ◌∙◌, ap, subst, arith, Option, Some, None, if◌then◌else◌, slice_get, inl, inr}
use Rattle.std.specs.List.{Contains}
use Rattle.std.proofs.lemmas.Bool.Decides.{Decides-eqb}
use Rattle.std.proofs.lemmas.Bool.{cases_lt}
use Rattle.std.proofs.lemmas.List.{get_or_past}
use Rattle.std.proofs.lemmas.Option.{same_Some}
use Rattle.any_kind.specs.Any.{any_defined, any_functional, any_inputs, any_output, any_vars}
use Rattle.any_kind.specs.AnyLaws.{any-parts}
use Rattle.any_kind.specs.declared.any.AnyKind.{AnyKind}
use Rattle.digraph.specs.Order.{IsOrder, OrderedIsAcyclic}
use Rattle.dom_core.specs.Ends.{Ends}
use Rattle.dom_core.proofs.RisesLaws.{or_true}
use Rattle.dom_core.specs.declared.var_id.VarId.{VarId}
use Rattle.dom_definers.specs.Definers.{AreDefiners, DefineBelow, IsBelowSome, definer_at, dependence, is_var, numbers, posted_reads, reads_at}
use Rattle.dom_definers.specs.Hulls.{AreFitDefiners, IsFitDefiner, IsPostedDefinition, kept_by, kept_definer, spans}
use Rattle.dom_definers.specs.Known.{kept_of}
use Rattle.dom_definers.specs.Width.{AreFitFrom, GivesVar, if_defined, is_place}
use Rattle.dom_definers.specs.declared.posted.Posted.{Posted}
use Rattle.dom_definers.proofs.KnownLaws.{definer_found, kept_at}
use Rattle.dom_definers.proofs.SolvingLaws.{node_row, nodes}
use Rattle.dom_model.specs.Draft.{AreFitPosted, GivesOrReads, IsFitDefined, IsFitPosted}
use Rattle.kind_law.specs.Argument.{is_listed}
use Rattle.kind_law.specs.Laws.{AllBelow}
use Rattle.kind_law.proofs.ArgumentLaws.{listed, same_var}
use Rattle.kind_law.proofs.EachLaws.{each_map}

-- what is asked of the constraint at a place
pub posted_at : (n : ℕ) (cs : List Posted) (i : ℕ) (c : Posted) → AreFitPosted n cs → slice_get cs i ≡ Some c → IsFitPosted n c
posted_at n [] i c h g = absurd (cc)
posted_at n (d ∷ cs) zero c h g = subst (λ (p : Posted). IsFitPosted n p) (same_Some d c g) h.0
posted_at n (d ∷ cs) (suc i) c h g = posted_at n cs i c h.1 g

below_one : (n : ℕ) (k : AnyKind) (d : Option VarId) → IsFitDefined n k d → IsBelowSome n d
below_one n k None h = tt
below_one n k (Some x) h = h.0

-- each constraint is to define one of the variables, or none
pub define_below : (n : ℕ) (cs : List Posted) → AreFitPosted n cs → DefineBelow n cs
define_below n [] h = tt
define_below n (c ∷ cs) h = (below_one n c.kind c.defines h.0.defined, define_below n cs h.1)

-- a variable that is listed has its number among the numbers
number_listed : (x : VarId) (vs : List VarId) → is_listed x vs ≡ true → Contains (numbers vs) x.0
number_listed x [] e = absurd (cc)
number_listed x (v ∷ vs) e =
    elim (or_true (v.0 == x.0) (is_listed x vs) e) [
      | inl same ↦ (0, omega arith, (Decides-eqb v.0 x.0).0 same)
      | inr later ↦ (let there = number_listed x vs later in (suc there.0, omega (arith, there.1), there.2))
    ]

-- the inputs are some of the variables
pub inputs_below : (n : ℕ) (k : AnyKind) → any_functional k ≡ true → AllBelow n (any_vars k) → AllBelow n (any_inputs k)
inputs_below n k f h = each_map (λ u. is_listed u (any_vars k) ≡ true) (λ u. u.0 < n) (any_inputs k) (λ u e. listed (λ w. w.0 < n) u (any_vars k) e h) (any-parts k f).others

module _ (n : ℕ) (cs : List Posted) (ds : List (Option ℕ)) (order : List ℕ) (fit : AreFitPosted n cs) (definers : AreDefiners cs n ds)
    (is_order : IsOrder (dependence cs ds) order) (law : OrderedIsAcyclic) where
  -- a definition that reads its own variable is cyclic
  own_cycle : (v i : ℕ) (c : Posted) → v < n → definer_at ds v ≡ Some i → slice_get cs i ≡ Some c → any_functional c.kind ≡ false → Contains (numbers (any_vars c.kind)) v → ⊥
  own_cycle v i c below definer got other reads =
      let all : reads_at cs (definer_at ds v) ≡ any_vars c.kind =
      ap (λ (d : Option ℕ). reads_at cs d) definer ∙ ap (λ (p : Option Posted). posted_reads p) got ∙ ap (λ (b : Bool). if b then any_inputs c.kind else any_vars c.kind) other in
      let node : v < length (dependence cs ds) = omega (arith, below, nodes cs ds, definers.whole) in
      let row : Contains (get_or (dependence cs ds) v []) v =
      subst (λ (xs : List ℕ). Contains xs v) (sym (node_row cs ds v (omega (arith, below, definers.whole)) ∙ ap (λ (us : List VarId). numbers us) all)) reads in
      law (dependence cs ds) order is_order v ([], (node, row))

  gives_or_reads : (v i : ℕ) (c : Posted) (x : VarId) → v < n → definer_at ds v ≡ Some i → slice_get cs i ≡ Some c → x.0 ≡ v → GivesOrReads c.kind x
      → (any_functional c.kind ≡ true) × (any_output c.kind ≡ x)
  gives_or_reads v i c x below definer got same (inl gives) = gives
  gives_or_reads v i c x below definer got same (inr reads) =
      absurd (own_cycle v i c below definer got reads.0 (subst (λ (u : ℕ). Contains (numbers (any_vars c.kind)) u) same (number_listed x (any_vars c.kind) reads.1)))

  gives_by : (v i : ℕ) (c : Posted) (d : Option VarId) → v < n → definer_at ds v ≡ Some i → slice_get cs i ≡ Some c → is_var d v ≡ true → IsFitDefined n c.kind d
      → (any_functional c.kind ≡ true) × (any_output c.kind ≡ record { 0 = v }) × (d ≡ Some (record { 0 = v }))
  gives_by v i c None below definer got is h = absurd (cc)
  gives_by v i c (Some x) below definer got is h =
      let same : x.0 ≡ v = (Decides-eqb x.0 v).0 is in
      let gives = gives_or_reads v i c x below definer got same h.1 in
      let var : x ≡ record { 0 = v } = same_var (record { 0 = v }) x same in
      (gives.0, gives.1 ∙ var, ap (λ (y : VarId). Some y) var)

  -- the constraint at the place of a definer gives the variable its value
  pub definer_gives : (v i : ℕ) → v < n → definer_at ds v ≡ Some i
      → (c : Posted) × (slice_get cs i ≡ Some c) × (any_functional c.kind ≡ true) × (any_output c.kind ≡ record { 0 = v }) × (c.defines ≡ Some (record { 0 = v })) × IsFitPosted n c
  definer_gives v i below definer =
      let found = definer_found cs 0 v i (sym (definers.at v below) ∙ definer) in
      let there : found.1 ≡ i = omega (arith, found.2) in
      let got : slice_get cs i ≡ Some found.0 = subst (λ (j : ℕ). slice_get cs j ≡ Some found.0) there found.3 in
      let own : IsFitPosted n found.0 = posted_at n cs i found.0 fit got in
      let gives = gives_by v i found.0 found.0.defines below definer got found.4 own.defined in
      (found.0, got, gives.0, gives.1, gives.2, own)

  fit_definer : (v : ℕ) (d : Option ℕ) → v < n → definer_at ds v ≡ d → IsFitDefiner n cs d
  fit_definer v None below e = tt
  fit_definer v (Some i) below e =
      let g = definer_gives v i below e in
      subst (λ (p : Option Posted). IsPostedDefinition n p) (sym g.1) (record { functional = g.2; below = inputs_below n g.0.kind g.2 g.5.below })

  definer_beyond : (v : ℕ) → length ds ≤ v → definer_at ds v ≡ None
  definer_beyond v past = get_or_past ds v None past

  -- each definer is a definition
  pub fit_definers : AreFitDefiners n cs ds
  fit_definers v =
      elim (cases_lt v n) [
        | inl below ↦ fit_definer v (definer_at ds v) below refl
        | inr past ↦ subst (λ (d : Option ℕ). IsFitDefiner n cs d) (sym (definer_beyond v (omega (arith, past, definers.whole)))) tt
      ]

  kept_from : (hs : List (Option Ends)) (d : Option ℕ) (i : ℕ) → kept_definer cs hs d ≡ Some i → d ≡ Some i
  kept_from hs None i h = absurd (cc)
  kept_from hs (Some j) i h = kept_from_place (slice_get cs j) hs j i h where
    kept_from_place : (p : Option Posted) (hs : List (Option Ends)) (j i : ℕ) → kept_by p j hs ≡ Some i → Some j ≡ Some i
    kept_from_place None hs j i h = absurd (cc)
    kept_from_place (Some c) hs j i h = elim (any_defined c.kind (spans hs)) as (λ b. (if b then Some j else None) ≡ Some i → Some j ≡ Some i) [ true ↦ λ e. e | false ↦ λ e. absurd (cc) ] h

  -- a definer that stays is one from the start
  pub kept_is_first : (hs : List (Option Ends)) (v i : ℕ) → definer_at (kept_of cs hs ds) v ≡ Some i → definer_at ds v ≡ Some i
  kept_is_first hs v i h = kept_from hs (definer_at ds v) i (sym (kept_at cs hs ds v) ∙ h)

  place_is : (d : Option ℕ) (i : ℕ) → is_place d i ≡ true → d ≡ Some i
  place_is None i h = absurd (cc)
  place_is (Some j) i h = ap (λ (k : ℕ). Some k) ((Decides-eqb j i).0 h)

  gives_var : (hs : List (Option Ends)) (i : ℕ) (c : Posted) (d : Option VarId) → slice_get cs i ≡ Some c → IsFitDefined n c.kind d → GivesVar c.kind (if_defined (kept_of cs hs ds) d i)
  gives_var hs i c None got h = tt
  gives_var hs i c (Some x) got h =
      let step : (b : Bool) → is_place (definer_at (kept_of cs hs ds) x.0) i ≡ b → GivesVar c.kind (if b then Some x else None) =
      λ b. elim b as (λ b. is_place (definer_at (kept_of cs hs ds) x.0) i ≡ b → GivesVar c.kind (if b then Some x else None)) [
        | true ↦ λ e. (let first : definer_at ds x.0 ≡ Some i = kept_is_first hs x.0 i (place_is (definer_at (kept_of cs hs ds) x.0) i e) in gives_or_reads x.0 i c x h.0 first got refl h.1)
        | false ↦ λ e. tt
      ] in
      step (is_place (definer_at (kept_of cs hs ds) x.0) i) refl

  -- each constraint gives the variable that it defines in the end its value
  pub fit_constraints : (hs : List (Option Ends)) (i : ℕ) (rest : List Posted) → AreFitPosted n rest → ((k : ℕ) (c : Posted) → slice_get rest k ≡ Some c → slice_get cs (i + k) ≡ Some c)
      → AreFitFrom n i rest (kept_of cs hs ds)
  fit_constraints hs i [] h at = tt
  fit_constraints hs i (c ∷ rest) h at =
      let got : slice_get cs i ≡ Some c = subst (λ (j : ℕ). slice_get cs j ≡ Some c) (let z : i + 0 ≡ i = omega arith in z) (at 0 c refl) in (
        record { below = h.0.below; gives = gives_var hs i c c.defines got h.0.defined },
        fit_constraints hs (suc i) rest h.1 (λ k d e. subst (λ (j : ℕ). slice_get cs j ≡ Some d) (let z : i + suc k ≡ suc i + k = omega arith in z) (at (suc k) d e)),
      )
