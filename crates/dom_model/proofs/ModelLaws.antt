-- The parts of a draft without a fault are those of a model.
use Rattle.std.proofs.Common.{◌≡◌, ℕ, ◌<◌, ◌≤◌, true, List, length, map, refl, sym, ◌∙◌, ap, subst, arith, Option, ℤ, pos}
use Rattle.std.proofs.lemmas.List.{length-map}
use Rattle.any_kind.specs.declared.any.AnyKind.{AnyKind}
use Rattle.digraph.specs.Order.{IsOrder, OrderedIsAcyclic}
use Rattle.dom_core.specs.Ends.{Ends}
use Rattle.dom_core.specs.Rises.{Rises}
use Rattle.dom_core.proofs.RisesLaws.{range_rises}
use Rattle.dom_definers.specs.Definers.{definer_at}
use Rattle.dom_definers.specs.Hulls.{AreSmallHulls, hull_at, is_known}
use Rattle.dom_definers.specs.Known.{EveryHullIsKnown, kept_of}
use Rattle.dom_definers.specs.declared.form.Declared.{Declared}
use Rattle.dom_definers.specs.declared.form.Declared.TheVariants.{Any, Range, Values}
use Rattle.dom_definers.specs.declared.form.Form.{Form}
use Rattle.dom_definers.specs.declared.form.Form.TheVariants.{Bool as Truths, Int}
use Rattle.dom_definers.specs.declared.variable.Variable.{Variable}
use Rattle.dom_domains.specs.Allowed.{form_values, values_of}
use Rattle.dom_domains.specs.Faults.{AreFaultless}
use Rattle.dom_domains.specs.FreeDomains.{free_domains}
use Rattle.dom_domains.specs.Restrictions.{AddsRestrictions}
use Rattle.dom_domains.proofs.AllowedLaws.{hull_of_values}
use Rattle.dom_domains.proofs.RisingLaws.{rising_rises}
use Rattle.dom_model.specs.Draft.{Draft, IsFitDraft}
use Rattle.dom_model.specs.Finished.{HasNoFault, IsFinished, graph_of, kept}
use Rattle.dom_model.specs.Sound.{IsSound}
use Rattle.dom_model.proofs.DomainLaws.{are_declared, are_domains, restrictions_fit}
use Rattle.dom_model.proofs.FinishLaws.{fit_definers_of, fit_kept}
use Rattle.dom_model.proofs.NetworkLaws.{are_fit_over, are_given, kept_order, kinds_and}
use Rattle.dom_network.specs.Completion.{reading_of}
use Rattle.dom_network.specs.Free.{free_of}
use Rattle.dom_network.specs.Network.{AreDomains, AreFitOver, IsGiven, IsNetwork, Network}

form_rises : (f : Form) (d : Declared) → Rises (form_values f d)
form_rises Truths d = range_rises (pos 0) (pos 1)
form_rises Int Any = tt
form_rises Int (Range lo hi) = range_rises lo hi
form_rises Int (Values vs) = rising_rises vs

values_rise : (v : Variable) → Rises (values_of v)
values_rise v = form_rises v.form v.declared

module _ (d : Draft) (first : List (Option ℕ)) (order : List ℕ) (hs : List (Option Ends)) (ds : List (Option ℕ)) (doms : List (List ℤ)) (ks : List AnyKind)
    (fit : IsFitDraft d) (faultless : HasNoFault d first hs) (is_order : IsOrder (graph_of d first) order) (definers : ds ≡ kept d first hs)
    (domains : doms ≡ free_domains d.variables ds) (small : AreSmallHulls hs) (law : OrderedIsAcyclic) (known_law : EveryHullIsKnown)
    (added : AddsRestrictions d.variables ds (map (λ c. c.kind) d.constraints) ks) where
  known : (v : ℕ) → v < length d.variables → is_known (hull_at hs v) ≡ true
  known =
      known_law d.variables d.constraints first order hs
      (record {
        definers = faultless.defined.definers;
        fit = fit_definers_of d first order fit faultless.defined.definers is_order law;
        is_order = is_order;
        hulls = faultless.defined.hulls;
        gives = fit_kept d first hs fit faultless.defined law;
      })
      (are_declared d.variables d.constraints first hs faultless.defined.hulls hull_of_values values_rise faultless.domains) faultless.narrow

  kept_whole : length (kept_of d.constraints hs first) ≡ length d.variables
  kept_whole = length-map first _ ∙ faultless.defined.definers.whole

  whole : length ds ≡ length d.variables
  whole = ap (λ (xs : List (Option ℕ)). length xs) definers ∙ kept_whole

  size : length hs ≡ length d.variables
  size = faultless.defined.hulls.whole

  kinds_are : ks ≡ kinds_and d.constraints added.restrictions
  kinds_are = added.behind

  fit_over : AreFitOver hs ks
  fit_over =
      subst (λ (l : List AnyKind). AreFitOver hs l) (sym kinds_are)
      (are_fit_over d.variables d.constraints added.restrictions first order hs fit.posted faultless.defined.definers is_order law faultless.defined.hulls small known faultless.narrow
      (restrictions_fit hs 0 d.variables ds added.restrictions (omega (arith, size)) added.are_restrictions))

  given_at : (v : ℕ) → v < length d.variables → IsGiven hs ks v (definer_at ds v)
  given_at v lt =
      subst (λ (l : List AnyKind). IsGiven hs l v (definer_at ds v)) (sym kinds_are)
      (subst (λ (es : List (Option ℕ)). IsGiven hs (kinds_and d.constraints added.restrictions) v (definer_at es v)) (sym definers)
      (are_given d.variables d.constraints added.restrictions first order hs fit.posted faultless.defined.definers is_order law faultless.defined.hulls small known faultless.narrow v lt))

  domains_at : AreDomains hs (free_of ds) doms
  domains_at =
      subst (λ (l : List (List ℤ)). AreDomains hs (free_of ds) l) (sym domains)
      (subst (λ (es : List (Option ℕ)). AreDomains hs (free_of es) (free_domains d.variables es)) (sym definers)
      (are_domains d.variables d.constraints first hs faultless.defined.hulls hull_of_values values_rise faultless.domains kept_whole))

  order_at : IsOrder (reading_of ks ds) order
  order_at =
      subst (λ (l : List AnyKind). IsOrder (reading_of l ds) order) (sym kinds_are)
      (subst (λ (es : List (Option ℕ)). IsOrder (reading_of (kinds_and d.constraints added.restrictions) es) order) (sym definers)
      (kept_order d.variables d.constraints added.restrictions first order hs fit.posted faultless.defined.definers is_order law faultless.defined.hulls small known faultless.narrow))

  -- they are a network
  pub is_network : IsNetwork (record { constraints = ks; definers = ds; hulls = hs; domains = doms }) order
  is_network = record {
    few = omega (arith, size, fit.few_variables);
    whole = whole ∙ sym size;
    known = λ v lt. known v (omega (arith, size, lt));
    small = small;
    fit = fit_over;
    given = λ v lt. given_at v (omega (arith, whole, lt));
    domains = domains_at;
    is_order = order_at;
  }

  -- and of a model
  pub is_sound : IsSound (record { variables = d.variables; network = record { constraints = ks; definers = ds; hulls = hs; domains = doms }; goal = d.goal; outputs = d.outputs })
  is_sound = record {
    whole = whole;
    faultless = subst (λ (es : List (Option ℕ)). AreFaultless d.variables es) (sym definers) faultless.domains;
    domains = domains;
    few = subst (λ (es : List (Option ℕ)). length (free_of es) ≤ 4096) (sym definers) faultless.few;
    front = map (λ c. c.kind) d.constraints;
    restrictions = added.restrictions;
    restricted = added.are_restrictions;
    constraints = added.behind;
    goal = fit.goal;
    outputs = fit.outputs;
  }

  -- which is that of the draft
  pub is_finished : IsFinished d (record { variables = d.variables; network = record { constraints = ks; definers = ds; hulls = hs; domains = doms }; goal = d.goal; outputs = d.outputs })
  is_finished = record {
    first = first;
    faultless = faultless;
    parts = record {
      variables = refl;
      goal = refl;
      outputs = refl;
      definers = definers;
      domains = domains;
      restrictions = added.restrictions;
      restricted = added.are_restrictions;
      constraints = added.behind;
    };
  }

-- ---- in the words of the calls

-- restrictions behind the kinds of a draft, told of the draft's parts
pub added_to : (d e : Draft) (vs : List Variable) (ds es : List (Option ℕ)) (old new : List AnyKind) → e ≡ d → vs ≡ e.variables → es ≡ ds → old ≡ map (λ c. c.kind) e.constraints
    → AddsRestrictions vs es old new → AddsRestrictions d.variables ds (map (λ c. c.kind) d.constraints) new
added_to d e vs ds es old new draft variables definers kinds h =
    subst (λ (x : Draft). AddsRestrictions x.variables ds (map (λ c. c.kind) x.constraints) new) draft
    (subst (λ (l : List AnyKind). AddsRestrictions e.variables ds l new) kinds
    (subst (λ (xs : List Variable). AddsRestrictions xs ds old new) variables (subst (λ (xs : List (Option ℕ)). AddsRestrictions vs xs old new) definers h)))

-- a problem of the same parts
pub same_sound : (d e : Draft) (m n : Network) → e ≡ d → n ≡ m → IsSound (record { variables = d.variables; network = m; goal = d.goal; outputs = d.outputs })
    → IsSound (record { variables = e.variables; network = n; goal = e.goal; outputs = e.outputs })
same_sound d e m n draft network h =
    subst (λ (x : Draft). IsSound (record { variables = x.variables; network = n; goal = x.goal; outputs = x.outputs })) (sym draft)
    (subst (λ (y : Network). IsSound (record { variables = d.variables; network = y; goal = d.goal; outputs = d.outputs })) (sym network) h)

pub same_finished : (d e : Draft) (m n : Network) → e ≡ d → n ≡ m → IsFinished d (record { variables = d.variables; network = m; goal = d.goal; outputs = d.outputs })
    → IsFinished d (record { variables = e.variables; network = n; goal = e.goal; outputs = e.outputs })
same_finished d e m n draft network h =
    subst (λ (x : Draft). IsFinished d (record { variables = x.variables; network = n; goal = x.goal; outputs = x.outputs })) (sym draft)
    (subst (λ (y : Network). IsFinished d (record { variables = d.variables; network = y; goal = d.goal; outputs = d.outputs })) (sym network) h)
