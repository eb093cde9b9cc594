-- What is left is read on to the closing quote of the whole.
use Rattle.std.proofs.Common.{◌≡◌, false, drop}
use Rattle.fzn_lex.specs.Scan.{inside_len, more}
use Rattle.fzn_lex.proofs.texts.inside.Given as goal

abbrev pub invariant-loop-i : goal.invariant-loop-i
invariant-loop-i l = more l.i (inside_len l.escaped (drop l.i l.bytes)) ≡ inside_len false l.bytes
