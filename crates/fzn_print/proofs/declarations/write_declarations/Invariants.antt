-- The things so far are written.
use Rattle.std.proofs.Common.{◌≡◌, ◌++◌, take}
use Rattle.fzn_print.specs.Marks.{text_of, each}
use Rattle.fzn_print.specs.Canonical.{declaration_marks}
use Rattle.fzn_print.proofs.declarations.write_declarations.Given as goal

abbrev pub invariant-loop-declaration : goal.invariant-loop-declaration
invariant-loop-declaration l = l.out.items ≡ l.fn.out.items ++ text_of (each declaration_marks (take l.declaration-index l.declarations))
