use Rattle.std.proofs.Common.{◌≡◌, ◌≤◌, false, length, arith, rules}
use Rattle.dom_edge.specs.File.{Holds}
use Rattle.dom_edge.proofs.Pieces.{starts_with_whole, starts_with_limit}
use Rattle.dom_edge.proofs.reading.read_whole.Goals as goal

pub returns-then-not-branch-clause-read : goal.returns-then-not-branch-clause-read
returns-then-not-branch-clause-read g c = λ file told.
    let told_now : Holds (g.F.Folder.bytes c.loop-text.folder c.args.name.now) file = rw c.loop-text.invariant.files told in
    let starts = c.in_ok-read_piece.ensures.starts file told_now (c.loop-text.invariant.starts file told) in
    let none : c.in_ok-read_piece.field-0 ≡ false = search rules in
    let ends = c.in_ok-read_piece.ensures.ends file told_now none in
    let within : length c.read_piece.new.text.items ≤ c.args.limit = search rules in
    starts_with_whole file c.read_piece.new.text.items c.args.limit starts (omega (arith, ends, c.read_piece.new.text.ok.0)) within

pub returns-clause-read : goal.returns-clause-read
returns-clause-read g c = λ file told.
    let size : length c.loop-text.text.items ≡ c.args.limit = omega (arith, c.loop-text.text.ok.0) in
    starts_with_limit file c.loop-text.text.items c.args.limit (c.loop-text.invariant.starts file told) size
