use Rattle.std.proofs.Common.{Some, [], unwrap_or}
use Rattle.dom_edge.specs.Stored.{file_named}
use Rattle.dom_edge.proofs.StoredLemmas.{told_same}
use Rattle.dom_edge.proofs.never_folder.NeverFolder.insert.Goals as goal

pub returns-clause-err : goal.returns-clause-err
returns-clause-err c =
    told_same c.insert.result (file_named c.args.self.now.files.files) (file_named c.insert.new.self.files) (λ file. Some (Some (unwrap_or file []))) c.insert.ensures.err
