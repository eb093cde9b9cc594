-- Files that are held in memory, in a map from name to bytes.
use Rattle.std.specs.Prelude.{ℕ, List, [], Option, String, Vec, unwrap_or}
use Rattle.std.specs.Option.{option_map}
use Rattle.std.specs.BTreeMap.{BTreeMap, get_by_text}
use Rattle.std.specs.declared.alloc.Global.{Global}

-- the bytes of the file of this name, where there is one
abbrev pub file_named : BTreeMap (String Global) (Vec ℕ Global) → List ℕ → Option (List ℕ)
file_named files name = option_map (λ bytes. bytes.items) (get_by_text files name)

-- the bytes of the file of this name, none where nothing was put there
abbrev pub file_or_empty : BTreeMap (String Global) (Vec ℕ Global) → List ℕ → List ℕ
file_or_empty files name = unwrap_or (file_named files name) []
