-- A network in the words of its calls: what is kept of it, and what is read.
use Rattle.std.proofs.Common.{◌≡◌, ◌<◌, Option, Some, None, List, [], ℕ, length, get_or, slice_get, ℤ, refl, sym, ◌∙◌, ap, subst, arith}
use Rattle.std.proofs.lemmas.List.{get_or_default}
use Rattle.std.proofs.lemmas.Option.{get_or_from_slice_get, same_Some, slice_get_read}
use Rattle.any_kind.specs.Any.{AnyInputsFit, any_given, any_inputs}
use Rattle.any_kind.specs.declared.any.AnyKind.{AnyKind}
use Rattle.dom_core.specs.Small.{IsSmall}
use Rattle.dom_core.specs.declared.var_id.VarId.{VarId}
use Rattle.dom_definers.specs.Definers.{definer_at}
use Rattle.dom_network.specs.Filling.{IsReadInside, own_definition}
use Rattle.dom_network.specs.Free.{free_of}
use Rattle.dom_network.specs.Network.{Gives, IsNetwork, Network}
use Rattle.dom_network.specs.Place.{IsPlace, places_of}
use Rattle.dom_network.specs.Completion.{reading_of}
use Rattle.dom_network.specs.Tables.{AreDependentsIn, AreReadersIn, IsKept, free_marks}
use Rattle.dom_network.proofs.TableLaws.{dependents_read}
use Rattle.incidence.specs.Dependents.{AreDependents, IsDependents}
use Rattle.dom_network.proofs.FreeLaws.{domain_count}
use Rattle.dom_network.proofs.HullLaws.{LieInHulls, by_definer, fit_at, given_small, inputs_below, inputs_fit}
use Rattle.dom_network.proofs.OrderLaws.{defined_by, reading_count}
use Rattle.dom_network.proofs.PlaceLaws.{place_count, place_read}
use Rattle.kind_law.specs.Laws.{AllBelow, points}

-- what is asked where the definition of a variable is evaluated
pub record IsUse (m : Network) (a : List ℤ) (v : ℕ) (k : AnyKind) : Type 0 where
  pub own : own_definition m v ≡ Some k
  pub below : AllBelow (length a) (any_inputs k)
  pub fits : AnyInputsFit k (points a)
  pub small : IsSmall (any_given k a)

definition_used : (m : Network) (order : List ℕ) (a : List ℤ) (v i : ℕ) (k : AnyKind) → IsNetwork m order → length a ≡ length m.definers → IsReadInside m.hulls (own_definition m v) a
    → definer_at m.definers v ≡ Some i → slice_get m.constraints i ≡ Some k → Gives m.hulls v k → IsUse m a v k
definition_used m order a v i k net whole read e g gives =
    let own = defined_by m v i k e g in
    let inside : LieInHulls m.hulls a (any_inputs k) = subst (λ (o : Option AnyKind). IsReadInside m.hulls o a) own read in
    record {
      own = own;
      below = subst (λ (n : ℕ). AllBelow n (any_inputs k)) (sym (whole ∙ net.whole)) (inputs_below m.hulls v k (fit_at m.hulls m.constraints i k net.fit g) gives);
      fits = inputs_fit m.hulls a v k gives inside;
      small = given_small m.hulls a v k net.small gives inside;
    }

-- of a definer that is there, and the constraint at its place
definer_used : (m : Network) (order : List ℕ) (a : List ℤ) (v i : ℕ) (k : AnyKind) → IsNetwork m order → v < length m.definers → length a ≡ length m.definers
    → IsReadInside m.hulls (own_definition m v) a → definer_at m.definers v ≡ Some i → k ≡ get_or m.constraints i k → IsUse m a v k
definer_used m order a v i k net lt whole read definer there =
    by_definer m.hulls m.constraints m.definers v (IsUse m a v k) (definer_at m.definers v) refl (net.given v lt)
    (λ e. absurd (cc))
    (λ j c e g gives. (let place : j ≡ i = same_Some j i (sym e ∙ definer) in
    let here : get_or m.constraints i k ≡ c = get_or_from_slice_get m.constraints i c k (subst (λ (n : ℕ). slice_get m.constraints n ≡ Some c) place g) in
    subst (λ (x : AnyKind). IsUse m a v x) (sym here ∙ sym there) (definition_used m order a v j c net whole read e g gives)))

module _ (inner m : Network) (order : List ℕ) (free : List VarId) (places : List (Option ℕ)) (readers dependents : List (List ℕ)) (view : inner ≡ m)
    (kept : IsKept inner order free places readers dependents) where
  pub kept_network : IsNetwork m order
  kept_network = subst (λ (n : Network). IsNetwork n order) view kept.network

  pub kept_order : (items : List ℕ) → items ≡ order → IsNetwork m items
  kept_order items e = subst (λ (o : List ℕ). IsNetwork m o) (sym e) kept_network

  pub kept_free : (items : List VarId) → items ≡ free → items ≡ free_of m.definers
  kept_free items e = e ∙ kept.is_free ∙ ap (λ (n : Network). free_of n.definers) view

  pub kept_constraints : (items : List AnyKind) → items ≡ inner.constraints → items ≡ m.constraints
  kept_constraints items e = e ∙ ap (λ (n : Network). n.constraints) view

  pub place_below : (v : ℕ) → v < length m.definers → v < length places
  place_below v lt = omega (arith, lt, ap length kept.is_placed, place_count inner.definers, ap (λ (n : Network). length n.definers) view)

  pub place_found : (v : ℕ) (o : Option ℕ) → v < length m.definers → o ≡ get_or places v o → IsPlace m.definers v o
  place_found v o lt read =
      let all : places ≡ places_of m.definers = kept.is_placed ∙ ap (λ (n : Network). places_of n.definers) view in
      let long : v < length (places_of m.definers) = omega (arith, lt, place_count m.definers) in
      let there : get_or (places_of m.definers) v None ≡ o =
      sym (get_or_default (places_of m.definers) v o None long) ∙ sym (subst (λ (ps : List (Option ℕ)). o ≡ get_or ps v o) all read) in
      subst (λ (p : Option ℕ). IsPlace m.definers v p) there (place_read m.definers v lt)

  domains_many : length m.domains ≡ length (free_of m.definers)
  domains_many = domain_count m.hulls (free_of m.definers) m.domains kept_network.domains

  pub domain_below : (i : ℕ) → i < length (free_of m.definers) → i < length inner.domains
  domain_below i lt = omega (arith, lt, domains_many, ap (λ (n : Network). length n.domains) view)

  pub domain_read : (i : ℕ) (d : List ℤ) → d ≡ get_or inner.domains i d → d ≡ get_or m.domains i d
  domain_read i d e = subst (λ (ds : List (List ℤ)). d ≡ get_or ds i d) (ap (λ (n : Network). n.domains) view) e

  pub domain_found : (i : ℕ) (d : List ℤ) → i < length (free_of m.definers) → d ≡ get_or inner.domains i d → slice_get m.domains i ≡ Some d
  domain_found i d lt e = slice_get_read m.domains (length (free_of m.definers)) i d (sym domains_many) lt (domain_read i d e)

  -- the definition of a variable that is read
  pub definition_read : (a : List ℤ) (v i : ℕ) (d : Option ℕ) (k : AnyKind) → v < length m.definers → length a ≡ length m.definers → IsReadInside m.hulls (own_definition m v) a
      → d ≡ get_or inner.definers v d → d ≡ Some i → k ≡ get_or inner.constraints i k → IsUse m a v k
  definition_read a v i d k lt whole inside read some there =
      let here : d ≡ get_or m.definers v d = subst (λ (ds : List (Option ℕ)). d ≡ get_or ds v d) (ap (λ (n : Network). n.definers) view) read in
      definer_used m order a v i k kept_network lt whole inside (sym (get_or_default m.definers v d None lt) ∙ sym here ∙ some)
      (subst (λ (ks : List AnyKind). k ≡ get_or ks i k) (ap (λ (n : Network). n.constraints) view) there)

  kept_count : length inner.definers ≡ length m.definers
  kept_count = ap (λ (n : Network). length n.definers) view

  pub readers_below : (v : ℕ) → v < length m.definers → v < length readers
  readers_below v lt = omega (arith, lt, kept.is_read.whole, kept_count)

  pub readers_found : (v : ℕ) (row : List ℕ) → v < length m.definers → row ≡ get_or readers v [] → AreReadersIn m.constraints v row
  readers_found v row lt read =
      subst (AreReadersIn m.constraints v) (sym read)
      (subst (λ (n : Network). AreReadersIn n.constraints v (get_or readers v [])) view (kept.is_read.each v (omega (arith, lt, kept_count))))

  pub dependents_below : (v : ℕ) → v < length m.definers → v < length dependents
  dependents_below v lt = omega (arith, lt, kept.is_followed.whole, reading_count inner.constraints inner.definers, kept_count)

  pub dependents_found : (v : ℕ) (row : List ℕ) → v < length m.definers → definer_at m.definers v ≡ None → row ≡ get_or dependents v [] → AreDependentsIn m v row
  dependents_found v row lt free read =
      let all : AreDependents (reading_of m.constraints m.definers) order (free_marks m.definers) dependents =
      subst (λ (n : Network). AreDependents (reading_of n.constraints n.definers) order (free_marks n.definers) dependents) view kept.is_followed in
      (order, kept_network.is_order, subst (IsDependents (reading_of m.constraints m.definers) order v) (sym read) (dependents_read m.constraints m.definers order dependents v all lt free))
