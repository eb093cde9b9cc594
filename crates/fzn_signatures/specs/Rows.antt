-- What a row of the table says.
use Rattle.fzn_signatures.specs.declared.row.Row.{Row}
use Rattle.fzn_signatures.specs.Table.{Entry}

-- a row as an entry of the table
abbrev pub entry_of : Row → Entry
entry_of r = record { name = r.name.now; arguments = r.arguments.now; shape = r.shape }
