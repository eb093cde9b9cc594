use Rattle.std.proofs.Common.{rules, of_calls}
use Rattle.std.specs.Cmp.Lexicographic.{slice_cmp}
use Rattle.std.specs.Ordering.{nat_cmp}
use Rattle.std.proofs.lemmas.Fn.{always_returns_same}
use Rattle.fzn_signatures.specs.declared.row.Row.{Row}
use Rattle.fzn_signatures.proofs.Found.{listed, unlisted}
use Rattle.fzn_signatures.proofs.row.row_of.Goals as goal

pub returns-in-Ok : goal.returns-in-Ok
returns-in-Ok c =
    let name = c.args.name.now in
    let by_name = c.in-Ok.ensures.position (λ (r : Row). slice_cmp nat_cmp r.name.now name) (always_returns_same _ _ _ (λ a r f called. search (rules, of_calls))) in
    listed c.rows-rows.result.now c.rows-rows.ensures name c.in-Ok.at _ c.in-Ok.ensures.bound by_name

pub returns-in-Err : goal.returns-in-Err
returns-in-Err c =
    let name = c.args.name.now in
    let by_name = c.in-Err.ensures.position (λ (r : Row). slice_cmp nat_cmp r.name.now name) (always_returns_same _ _ _ (λ a r f called. search (rules, of_calls))) in
    unlisted c.rows-rows.result.now c.rows-rows.ensures name c.in-Err.field-0 by_name
