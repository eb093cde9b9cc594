use Rattle.std.proofs.Common.{◌≡◌, ◌∙◌, sym, arith, None, Some}
use Rattle.chains.specs.declared.marks.Mark.TheVariants.{Unseen}
use Rattle.chains.specs.Walks.{mark_at}
use Rattle.chains.proofs.Follow.{walk_begins, walk_on, walk_ends, walk_meets, ends_here, ends_nowhere, seen_or_full}
use Rattle.chains.proofs.walk.trace.Goals.{then-walk-test+else-is_unseen, else-walk-test}
use Rattle.chains.proofs.walk.trace.Goals as goal

pub walk-init : goal.walk-init
walk-init c = record {
  walking = walk_begins c.args.links.now c.args.start c.args.marks.now c.requires.right;
  size = c.len-size.ensures;
}

pub returns-in-End : goal.returns-in-End
returns-in-End c =
    let unseen : mark_at c.walk.marks c.walk.place ≡ Unseen = c.is_unseen.ensures.0 c.if-is_unseen.true in
    rw (c.put.ensures, c.walk_of.ensures)
    (walk_ends c.args.links.now c.args.start c.args.marks.now c.walk.marks c.walk.place c.walk.count c.walk.invariant.walking unseen (Some c.walk.place)
    (ends_here c.args.links.now c.walk.place (sym c.link_at.ensures ∙ c.in-End.is)))

pub returns-in-Nothing : goal.returns-in-Nothing
returns-in-Nothing c =
    let unseen : mark_at c.walk.marks c.walk.place ≡ Unseen = c.is_unseen.ensures.0 c.if-is_unseen.true in
    rw (c.put.ensures, c.walk_of-in-Nothing.ensures)
    (walk_ends c.args.links.now c.args.start c.args.marks.now c.walk.marks c.walk.place c.walk.count c.walk.invariant.walking unseen None
    (ends_nowhere c.args.links.now c.walk.place (sym c.link_at.ensures ∙ c.in-Nothing.is)))

pub walk-preserved : goal.walk-preserved
walk-preserved c =
    let unseen : mark_at c.walk.marks c.walk.place ≡ Unseen = c.is_unseen.ensures.0 c.if-is_unseen.true in
    rw c.put.ensures (record {
      walking = walk_on c.args.links.now c.args.start c.args.marks.now c.walk.marks c.walk.place c.walk.count c.walk.invariant.walking unseen c.in-To.next (sym c.link_at.ensures ∙ c.in-To.is);
      size = c.walk.invariant.size;
    })

pub returns : goal.returns
returns c =
    let seen : mark_at c.walk.marks c.walk.place ≡ Unseen → ⊥ = elim c.walk-test.branch [
      | then-walk-test+else-is_unseen w ↦ λ is. absurd (let u = w.is_unseen.ensures.1 is in let f = w.if-is_unseen.false in cc)
      | else-walk-test w ↦ λ is. seen_or_full c.args.links.now c.args.start c.args.marks.now c.walk.marks c.walk.place c.walk.count c.walk.invariant.walking (omega (arith, c.walk.invariant.size, w.walk-test.false)) is
    ] in
    rw (c.walk_of-2.ensures, c.end_of.ensures, c.at.ensures) (walk_meets c.args.links.now c.args.start c.args.marks.now c.walk.marks c.walk.place c.walk.count c.walk.invariant.walking seen)
