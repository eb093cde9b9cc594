use Rattle.std.proofs.Common.{refl, arith}
use Rattle.std.proofs.lemmas.Option.{slice_get_within}
use Rattle.fzn_symbols.specs.Marks.{marks_of}
use Rattle.fzn_symbols.proofs.Marked.{marked, marks_count}
use Rattle.fzn_symbols.proofs.Whole.{known_more, unknown_here}
use Rattle.fzn_symbols.proofs.numbering.first_unknown.Goals as goal

pub loop-occurrence-preserved : goal.loop-occurrence-preserved
loop-occurrence-preserved c =
    known_more c.args.names.now (marks_of c.args.occurrences.now) c.loop-occurrence.occurrence-index _
    (marked c.args.occurrences.now c.loop-occurrence.occurrence-index _ c.loop-occurrence-test.true) c.loop-occurrence.invariant (λ h. let untrue = c.if-is_unknown.ensures.1 h in cc)

pub returns : goal.returns
returns c k at h =
    let within = slice_get_within (marks_of c.args.occurrences.now) k h.0 h.1 in
    c.loop-occurrence.invariant k at (omega (arith, within, marks_count c.args.occurrences.now, c.loop-occurrence-test.false)) h

pub returns-then-is_unknown : goal.returns-then-is_unknown
returns-then-is_unknown c =
    let os = c.args.occurrences.now in
    let k = c.loop-occurrence.occurrence-index in
    unknown_here c.args.names.now (marks_of os) k _ (marked os k _ c.loop-occurrence-test.true) c.loop-occurrence.invariant (c.if-is_unknown.ensures.0 refl)
