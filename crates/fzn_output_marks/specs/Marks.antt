-- Which annotations mark a declaration for printing.
use Rattle.std.specs.Prelude.{◌≡◌, List, ℕ, codes}
use Rattle.fzn_syntax.specs.declared.annotation.Annotation.{Annotation}

-- the annotation has this name, whatever its arguments
abbrev pub IsNamed : List ℕ → Annotation → Type 0
IsNamed name a = a.name.name ≡ name

-- the annotation marks a scalar
abbrev pub MarksScalar : Annotation → Type 0
MarksScalar = IsNamed (codes "output_var")

-- the annotation marks an array
abbrev pub MarksArray : Annotation → Type 0
MarksArray = IsNamed (codes "output_array")
