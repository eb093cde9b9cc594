use Rattle.fzn_output_marks.proofs.SetLaws.{set_told}
use Rattle.fzn_output_marks.proofs.sets.ends_of.Goals as goal

pub returns-in-Set : goal.returns-in-Set
returns-in-Set c = set_told c.args.literal _ _ c.whole_of.result c.in-Set.is c.into_vec.ensures c.whole_of.ensures
