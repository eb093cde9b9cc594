use Rattle.fzn_symbols.proofs.Places.{names_none, names_one}
use Rattle.fzn_symbols.proofs.typing.has_sort.Goals as goal

-- src/typing.rt:21:1
pub returns-in-None : goal.returns-in-None
returns-in-None c = names_none c.args.scope.now c.args.name.now c.args.sort c.in-None.ensures

-- src/typing.rt:21:1
pub returns-in-Some : goal.returns-in-Some
returns-in-Some c =
    names_one c.args.scope.now c.args.name.now c.args.sort c.in-Some.declaration.now c.is_sort.result c.declarations.ensures.different c.in-Some.ensures c.is_sort.ensures
