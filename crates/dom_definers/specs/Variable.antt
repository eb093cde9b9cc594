-- What the declaration of a variable allows.
use Rattle.std.specs.Prelude.{if◌then◌else◌, Option, Some, None, List, [], ◌∷◌, ℤ, pos, int_lt}
use Rattle.dom_core.specs.Ends.{Ends, only, hull_ends}
use Rattle.dom_definers.specs.declared.form.Declared.{Declared}
use Rattle.dom_definers.specs.declared.form.Declared.TheVariants.{Any, Range, Values}
use Rattle.dom_definers.specs.declared.form.Form.{Form}
use Rattle.dom_definers.specs.declared.form.Form.TheVariants.{Bool as Truths, Int}
use Rattle.dom_definers.specs.declared.variable.Variable.{Variable}

-- the interval from one end to the other, where it has an integer
abbrev pub range_hull : ℤ → ℤ → Option Ends
range_hull lo hi = if int_lt hi lo then None else Some (record { lo = lo; hi = hi })

-- the least interval over this one and the listed values
abbrev pub widened : Ends → List ℤ → Ends
widened e [] = e
widened e (x ∷ xs) = widened (hull_ends e (only x)) xs

-- the least to the greatest of the listed values
abbrev pub values_hull : List ℤ → Option Ends
values_hull [] = None
values_hull (x ∷ xs) = Some (widened (only x) xs)

-- the least to the greatest integer that is allowed
abbrev pub integers_hull : Declared → Option Ends
integers_hull Any = None
integers_hull (Range lo hi) = range_hull lo hi
integers_hull (Values vs) = values_hull vs

-- the least to the greatest value of a form that is allowed
abbrev pub form_hull : Form → Declared → Option Ends
form_hull Truths d = Some (record { lo = pos 0; hi = pos 1 })
form_hull Int d = integers_hull d

-- the least to the greatest value that the declaration allows; none where it allows no value, or every integer
abbrev pub declared_hull : Variable → Option Ends
declared_hull v = form_hull v.form v.declared
