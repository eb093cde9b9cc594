-- The number of a constraint that is too wide is the first fault, or there is none.
use Rattle.std.proofs.Common.{subst, List, Option, ℕ, Some, None}
use Rattle.dom_definers.specs.Width.{wide_from}
use Rattle.dom_model.specs.Finished.{IsWide}
use Rattle.dom_model.proofs.FoundLaws.{found_none, found_wide}
use Rattle.dom_model.proofs.builder.ModelBuilder.finish_few.Goals as goal

pub returns-in-Some : goal.returns-in-Some
returns-in-Some c =
    let told = rw c.in-Some.is at c.too_wide.ensures in
    found_wide c.args.self c.args.first.now c.args.hulls c.args.definers.items c.args.domains.items c.requires.defined c.requires.definers c.requires.domains c.in-Some.constraint c.requires.few
    (subst (λ (ds : List (Option ℕ)). IsWide (wide_from 0 c.args.self.constraints ds c.args.hulls) (Some c.in-Some.constraint)) c.as_slice.ensures.value told)

pub assemble-requires-clause-faultless : goal.assemble-requires-clause-faultless
assemble-requires-clause-faultless c =
    let told = rw c.in-None.is at c.too_wide.ensures in
    found_none c.args.self c.args.first.now c.args.hulls c.args.definers.items c.args.domains.items c.requires.defined c.requires.definers c.requires.domains c.requires.few
    (subst (λ (ds : List (Option ℕ)). IsWide (wide_from 0 c.args.self.constraints ds c.args.hulls) None) c.as_slice.ensures.value told)
