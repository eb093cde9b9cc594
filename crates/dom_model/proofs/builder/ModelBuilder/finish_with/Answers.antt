-- Too many domains are too many free variables.
use Rattle.std.proofs.Common.{◌≡◌, ◌<◌, ◌≤◌, subst, length, List, ℤ}
use Rattle.dom_model.proofs.FoundLaws.{found_many}
use Rattle.dom_model.proofs.builder.ModelBuilder.finish_with.Goals as goal

pub returns-in-Some : goal.returns-in-Some
returns-in-Some c =
    let told = rw c.in-Some.is at c.too_many.ensures in
    found_many c.args.self c.args.first.now c.args.hulls c.args.definers.items c.args.domains.items c.requires.defined c.requires.definers c.requires.domains c.in-Some.count
    (subst (λ (l : List (List ℤ)). (c.in-Some.count ≡ length l) × (4096 < c.in-Some.count)) c.as_slice.ensures.value told)

pub finish_few-requires-clause-few : goal.finish_few-requires-clause-few
finish_few-requires-clause-few c =
    let told = rw c.in-None.is at c.too_many.ensures in
    subst (λ (l : List (List ℤ)). length l ≤ 4096) c.as_slice.ensures.value told
