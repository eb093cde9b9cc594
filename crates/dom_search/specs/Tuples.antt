-- The tuples of a list of domains by their numbers.
use Rattle.std.specs.Prelude.{ℕ, ◌/◌, ◌%◌, List, [], ◌∷◌, slice_index_or, pos, ℤ}
use Rattle.dom_network.specs.Free.{tuple_count_of}

-- the tuple with that number, in lexicographic order of the places of its values in their domains
abbrev pub tuple_at : List (List ℤ) → ℕ → List ℤ
tuple_at [] n = []
tuple_at (d ∷ ds) n = slice_index_or d (n / tuple_count_of ds) (pos 0) ∷ tuple_at ds (n % tuple_count_of ds)
