-- The first variable on a cycle is the first fault.
use Rattle.std.proofs.Common.{◌≤◌, ◌∙◌, ap, subst, sym, length, List, Option, ℕ}
use Rattle.dom_model.specs.Draft.{Draft, IsFitDraft}
use Rattle.dom_model.specs.Finished.{IsFirstOfCycle, graph_of}
use Rattle.dom_model.proofs.FoundLaws.{few_nodes, found_cyclic}
use Rattle.dom_model.proofs.builder.ModelBuilder.finish.Goals as goal

pub first_of_cycle-requires-clause-few : goal.first_of_cycle-requires-clause-few
first_of_cycle-requires-clause-few c =
    let fit = subst (λ (d : Draft). IsFitDraft d) c.self.view_is c.self.invariant in
    subst (λ (g : List (List ℕ)). length g ≤ 100000) (sym (c.in_ok-graph.ensures ∙ ap (λ (ds : List (Option ℕ)). graph_of c.args.self ds) c.as_slice.ensures.value))
    (few_nodes c.args.self c.in_ok-first.first.items fit c.in_ok-first.ensures)

pub returns-in-None : goal.returns-in-None
returns-in-None c =
    found_cyclic c.args.self c.in_ok-first.first.items c.first_of_cycle.result c.in_ok-first.ensures
    (subst (λ (g : List (List ℕ)). IsFirstOfCycle g c.first_of_cycle.result) (c.in_ok-graph.ensures ∙ ap (λ (ds : List (Option ℕ)). graph_of c.args.self ds) c.as_slice.ensures.value)
    c.first_of_cycle.ensures)
