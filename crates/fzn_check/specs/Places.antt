-- The places of declarations by their names, and where a declaration's value leads.
use Rattle.std.specs.Prelude.{ℕ, suc, List, [], ◌∷◌, map, flat_map, Option, Some, None, if◌then◌else◌}
use Rattle.std.specs.Str.{bytes_eq}
use Rattle.fzn_syntax.specs.declared.declaration.Declaration.{Declaration}
use Rattle.fzn_syntax.specs.declared.expression.Basic.{Basic}
use Rattle.fzn_syntax.specs.declared.expression.Basic.TheVariants as basics
use Rattle.fzn_syntax.specs.declared.expression.Expression.{Expression}
use Rattle.fzn_syntax.specs.declared.expression.Expression.TheVariants as expressions
use Rattle.fzn_symbols.specs.Named.{name_of}
use Rattle.fzn_check.specs.Values.{value_of}

-- the places of the declarations of this name, the first of them all being at this place
abbrev pub places_from : ℕ → List Declaration → List ℕ → List ℕ
places_from k [] n = []
places_from k (d ∷ ds) n = if bytes_eq (name_of d) n then k ∷ places_from (suc k) ds n else places_from (suc k) ds n

-- the places of the declarations of this name
abbrev pub places_of : List Declaration → List ℕ → List ℕ
places_of ds n = places_from 0 ds n

-- the places of the declarations that it names
abbrev pub named_by : List Declaration → Basic → List ℕ
named_by ds basics.True = []
named_by ds basics.False = []
named_by ds (basics.Name n) = places_of ds n.name
named_by ds (basics.Number z) = []
named_by ds (basics.Range b) = []
named_by ds (basics.Set zs) = []

-- the places of the declarations that the expression names, itself or by its entries
abbrev pub named_in : List Declaration → Expression → List ℕ
named_in ds (expressions.Basic b) = named_by ds b
named_in ds (expressions.List bs) = flat_map (named_by ds) bs

-- the same of a value, where there is one
abbrev pub named_in_value : List Declaration → Option Expression → List ℕ
named_in_value ds None = []
named_in_value ds (Some e) = named_in ds e

-- the places of the declarations that this declaration's value names
abbrev pub successors : List Declaration → Declaration → List ℕ
successors ds d = named_in_value ds (value_of d)

-- each declaration leads to those that its value names
abbrev pub graph_of : List Declaration → List (List ℕ)
graph_of ds = map (successors ds) ds
