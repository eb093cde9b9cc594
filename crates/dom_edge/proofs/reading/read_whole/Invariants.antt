use Rattle.std.proofs.Common.{◌≡◌, ℕ, ◌-◌, ◌<◌, ◌≤◌, List, vec_len}
use Rattle.std.specs.Io.{StartsWith}
use Rattle.dom_edge.specs.File.{IsMissing, Holds}
use Rattle.dom_edge.proofs.reading.read_whole.Given as goal

abbrev pub invariant-loop-text : goal.invariant-loop-text
invariant-loop-text g l = record {
  within : vec_len l.text ≤ l.limit;
  some : 0 < vec_len l.piece;
  starts : (file : List ℕ) → Holds (g.F.Folder.bytes l.fn.folder l.name) file → StartsWith file l.text.items;
  missing : IsMissing (g.F.Folder.bytes l.fn.folder l.name) → vec_len l.text ≡ 0;
  count : g.F.Folder.read_faults l.fn.folder ≤ g.F.Folder.read_faults l.folder;
  files : g.F.Folder.bytes l.folder ≡ g.F.Folder.bytes l.fn.folder;
  room : g.F.Folder.spare l.folder ≡ g.F.Folder.spare l.fn.folder;
  writes : g.F.Folder.write_faults l.folder ≡ g.F.Folder.write_faults l.fn.folder;
}

abbrev pub decreases-loop-text : goal.decreases-loop-text
decreases-loop-text g l = l.limit - vec_len l.text
