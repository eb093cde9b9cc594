-- Which declarations have a float or a set variable.
use Rattle.std.specs.Prelude.{◌⊎◌, List, MatchOption}
use Rattle.fzn_syntax.specs.declared.declaration.Declaration.{Declaration}
use Rattle.fzn_check.specs.Floats.{IsFloatOrSet, HasFloatOrSet}
use Rattle.fzn_check.specs.Values.{value_of}

-- the declaration is of a float or of a set variable, or its value has one
abbrev pub DeclaresFloatOrSet : List Declaration → Declaration → Type 0
DeclaresFloatOrSet ds d = IsFloatOrSet d ⊎ MatchOption (value_of d) ⊥ (HasFloatOrSet ds)
