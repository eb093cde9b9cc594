-- The declarations so far are told apart.
use Rattle.std.proofs.Common.{◌≡◌, map, take}
use Rattle.fzn_check.specs.DeclarationFaults.{is_constant}
use Rattle.fzn_check.proofs.declarations.constants_of.Given as goal

abbrev pub invariant-loop-declaration : goal.invariant-loop-declaration
invariant-loop-declaration l = l.constants.items ≡ map is_constant (take l.declaration-index l.declarations)
