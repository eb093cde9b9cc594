use Rattle.fzn_lower.proofs.Ascii.{items_ascii}
use Rattle.fzn_lower.proofs.Chained.{lowers_ended, lowers_unbuilt}
use Rattle.fzn_lower.specs.Steps.{FindsConstraintOn}
use Rattle.fzn_lower.proofs.lowering.lower_fine.Goals as goal

pub draft_of-requires-clause-ascii : goal.draft_of-requires-clause-ascii
draft_of-requires-clause-ascii c = items_ascii c.args.items.now c.requires.text

pub draft_of-requires-clause-few : goal.draft_of-requires-clause-few
draft_of-requires-clause-few c = record { variables = c.requires.sized.0; constraints = c.requires.sized.1 }

pub returns-in-Ok : goal.returns-in-Ok
returns-in-Ok c =
    let t = c.args.items.now in
    lowers_ended (FindsConstraintOn t) t c.in-Ok.draft c.finish.result c.requires.fine c.in-Ok.ensures c.finish.ensures

pub returns-in-Err-NotBuilt : goal.returns-in-Err-NotBuilt
returns-in-Err-NotBuilt c =
    let t = c.args.items.now in
    lowers_unbuilt (FindsConstraintOn t) t c.unbuilt_is_undrafted.ensures.undrafted c.requires.fine
    (record {
      text = c.requires.text;
      different = c.requires.named.1;
      known = c.requires.known;
      declared = c.requires.typed;
      posted = c.requires.fine.0;
      asked = c.requires.fine.1.0;
    }) (rw c.in-Err-NotBuilt.field-0-is at c.in-Err-NotBuilt.ensures)
