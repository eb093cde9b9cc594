-- Tokens that can be written back.
use Rattle.std.specs.Prelude.{ℕ, List}
use Rattle.fzn_lex.specs.declared.words.What.{What}
use Rattle.fzn_lex.specs.declared.words.What.TheVariants.{Name, Int, Float, Text}
use Rattle.fzn_lex.specs.Tokens.{Spells, IsSmall}

-- the bytes of a name, a float or a text spell it, and an integer is small
abbrev pub IsKept : What → List ℕ → Type 0
IsKept Name text = Spells Name text
IsKept Float text = Spells Float text
IsKept Text text = Spells Text text
IsKept (Int z) text = IsSmall z
IsKept _ text = Unit {0}
