-- What an occurrence says.
use Rattle.std.specs.Prelude.{List, map}
use Rattle.fzn_symbols.specs.declared.occurrence.Occurrence.{Occurrence}
use Rattle.fzn_symbols.specs.Numbered.{Mark}

-- an occurrence without its reference
abbrev pub mark_of : Occurrence → Mark
mark_of o = record { name = o.name.now; at = o.at; role = o.role }

-- occurrences without theirs
abbrev pub marks_of : List Occurrence → List Mark
marks_of os = map mark_of os
