-- Which faults are found, in the words of the calls that find them.
use Rattle.std.proofs.Common.{◌≡◌, ℕ, ◌<◌, ◌≤◌, true, List, length, replicate, refl, sym, ◌∙◌, ap, subst, arith, Option, Some, None, Err, ℤ}
use Rattle.std.proofs.lemmas.List.{length-map}
use Rattle.digraph.specs.Cycle.{IsFirstOnCycle}
use Rattle.dom_core.specs.Ends.{Ends}
use Rattle.dom_definers.specs.Definers.{AreDefiners}
use Rattle.dom_definers.specs.Width.{wide_from}
use Rattle.dom_definers.proofs.SolvingLaws.{nodes}
use Rattle.dom_domains.specs.FreeDomains.{AreFreeDomains}
use Rattle.dom_limits.specs.declared.counted.Counted.TheVariants.{Free}
use Rattle.dom_model.specs.Draft.{Draft, IsFitDraft}
use Rattle.dom_model.specs.Finished.{AreDefined, Finishes, HasDomains, HasFewFree, HasLaterFault, HasNoFault, IsFirstOfCycle, IsWide, graph_of, kept}
use Rattle.dom_model.specs.declared.error.BuildError.{BuildError}
use Rattle.dom_model.specs.declared.error.BuildError.TheVariants.{CyclicDefinition, EmptyDomain, Unbounded, DomainTooLarge, TooMany, TooWide, Memory}
use Rattle.dom_model.proofs.FeasibleLaws.{free_lengths}
use Rattle.dom_network.specs.Free.{free_of}

-- as many nodes as variables
pub few_nodes : (d : Draft) (first : List (Option ℕ)) → IsFitDraft d → AreDefiners d.constraints (length d.variables) first → length (graph_of d first) ≤ 100000
few_nodes d first h definers = omega (arith, nodes d.constraints first, definers.whole, h.few_variables)

-- the first variable on a cycle is the first fault
pub found_cyclic : (d : Draft) (first : List (Option ℕ)) (e : BuildError) → AreDefiners d.constraints (length d.variables) first → IsFirstOfCycle (graph_of d first) e → Finishes d (Err e)
found_cyclic d first (CyclicDefinition x) definers h = (first, definers, subst (λ (n : ℕ). IsFirstOnCycle (graph_of d first) (replicate n true) x.0) (nodes d.constraints first) h)
found_cyclic d first (EmptyDomain x) definers h = absurd h
found_cyclic d first (Unbounded x) definers h = absurd h
found_cyclic d first (DomainTooLarge x n) definers h = absurd h
found_cyclic d first (TooMany what n) definers h = absurd h
found_cyclic d first (TooWide c) definers h = absurd h
found_cyclic d first Memory definers h = tt

module _ (d : Draft) (first : List (Option ℕ)) (hs : List (Option Ends)) (ds : List (Option ℕ)) (doms : List (List ℤ)) (defined : AreDefined d first hs) (same : ds ≡ kept d first hs)
    (free : AreFreeDomains d.variables ds doms) where
  have_domains : HasDomains d (kept d first hs)
  have_domains = subst (λ (es : List (Option ℕ)). HasDomains d es) same free.faultless

  whole : length ds ≡ length d.variables
  whole = ap (λ (es : List (Option ℕ)). length es) same ∙ length-map first _ ∙ defined.definers.whole

  counted : length doms ≡ length (free_of (kept d first hs))
  counted =
      ap (λ (l : List (List ℤ)). length l) free.values ∙ free_lengths 0 d.variables ds whole ∙ ap (λ (es : List (Option ℕ)). length (free_of es)) same

  -- too many domains are too many free variables
  pub found_many : (n : ℕ) → (n ≡ length doms) × (4096 < n) → HasLaterFault d (TooMany Free n)
  found_many n h = (first, hs, defined, (refl, h.0 ∙ counted, h.1, have_domains))

  few_free : length doms ≤ 4096 → HasFewFree (kept d first hs)
  few_free h = omega (arith, h, counted)

  -- the number of a constraint that is too wide is the fault
  pub found_wide : (c : ℕ) → length doms ≤ 4096 → IsWide (wide_from 0 d.constraints ds hs) (Some c) → HasLaterFault d (TooWide c)
  found_wide c few h = (first, hs, defined, (h.0, h.1, ap (λ (es : List (Option ℕ)). wide_from 0 d.constraints es hs) (sym same) ∙ h.2, have_domains, few_free few))

  -- nothing is found
  pub found_none : length doms ≤ 4096 → IsWide (wide_from 0 d.constraints ds hs) None → HasNoFault d first hs
  found_none few h = record {
    defined = defined;
    domains = have_domains;
    few = few_free few;
    narrow = ap (λ (es : List (Option ℕ)). wide_from 0 d.constraints es hs) (sym same) ∙ h;
  }
