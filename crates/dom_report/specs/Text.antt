-- The text of an answer.
use Rattle.std.specs.Prelude.{ℕ, ℤ, pos, Bool, true, false, if◌then◌else◌, List, [], ◌∷◌, ◌++◌, length, map, slice_index_or, codes}
use Rattle.std.specs.Fmt.{decimal, signed_decimal}
use Rattle.std.specs.Ordering.{int_eq}
use Rattle.dom_core.specs.Assignment.{value_at}
use Rattle.dom_core.specs.declared.arg.Arg.{Arg}
use Rattle.dom_core.specs.declared.arg.Arg.TheVariants.{Var, Const}
use Rattle.dom_core.specs.declared.var_id.VarId.{VarId}
use Rattle.dom_definers.specs.declared.form.Form.{Form}
use Rattle.dom_definers.specs.declared.form.Form.TheVariants as forms
use Rattle.dom_index_sets.specs.declared.index_set.IndexSet.{IndexSet}
use Rattle.dom_model.specs.declared.output.Output.{Output}
use Rattle.dom_model.specs.declared.output.Output.TheVariants.{Scalar, Array}
use Rattle.dom_model.specs.Problem.{Problem}

-- the texts of the parts, one after the other
abbrev pub joined : {X : Type 0} → (X → List ℕ) → List X → List ℕ
joined f [] = []
joined f (x ∷ xs) = f x ++ joined f xs

-- the name of a variable
abbrev pub name_of : Problem → VarId → List ℕ
name_of p x = slice_index_or (map (λ v. v.name) p.variables) x.0 []

-- what the values of a variable stand for
abbrev pub form_of : Problem → VarId → Form
form_of p x = slice_index_or (map (λ v. v.form) p.variables) x.0 forms.Int

-- an integer in decimal; a truth value is false at 0, and else true
abbrev pub value_text_of : Form → ℤ → List ℕ
value_text_of forms.Int v = signed_decimal v
value_text_of forms.Bool v = if int_eq v (pos 0) then codes "false" else codes "true"

-- a name and its value, on a line
abbrev pub scalar_text_of : List ℕ → Form → ℤ → List ℕ
scalar_text_of name form v = name ++ codes " = " ++ value_text_of form v ++ codes ";\n"

-- the two ends of an index set, as they are
abbrev pub set_text_of : IndexSet → List ℕ
set_text_of s = signed_decimal s.lo ++ codes ".." ++ signed_decimal s.hi

-- the index sets, each with a comma and a blank behind it
abbrev pub sets_text_of : List IndexSet → List ℕ
sets_text_of ss = joined (λ s. set_text_of s ++ codes ", ") ss

-- the value of a variable, or the constant
abbrev pub entry_text_of : List ℤ → Form → Arg → List ℕ
entry_text_of a form (Var x) = value_text_of form (value_at a x)
entry_text_of a form (Const c) = value_text_of form c

-- the entries, each with a comma and a blank before it
abbrev pub more_entries_of : List ℤ → Form → List Arg → List ℕ
more_entries_of a form xs = joined (λ x. codes ", " ++ entry_text_of a form x) xs

-- the entries, with a comma and a blank between each two
abbrev pub entries_text_of : List ℤ → Form → List Arg → List ℕ
entries_text_of a form [] = []
entries_text_of a form (x ∷ xs) = entry_text_of a form x ++ more_entries_of a form xs

-- a name, the number of index sets, these, and the entries, on a line
abbrev pub array_text_of : List ℤ → List ℕ → Form → List IndexSet → List Arg → List ℕ
array_text_of a name form sets entries =
    name ++ codes " = array" ++ decimal (length sets) ++ codes "d(" ++ sets_text_of sets ++ codes "[" ++ entries_text_of a form entries ++ codes "]);\n"

-- the line of one output
abbrev pub line_of : Problem → List ℤ → Output → List ℕ
line_of p a (Scalar x) = scalar_text_of (name_of p x) (form_of p x) (value_at a x)
line_of p a (Array name form sets entries) = array_text_of a name form sets entries

-- the lines of the outputs, one after the other
abbrev pub lines_of : Problem → List ℤ → List Output → List ℕ
lines_of p a os = joined (line_of p a) os

-- the line that ends an answer, and after it that of a complete search
abbrev pub end_of : Bool → List ℕ
end_of true = codes "----------\n==========\n"
end_of false = codes "----------\n"

-- the marked outputs in order, and the end
abbrev pub answer_text_of : Problem → List ℤ → Bool → List ℕ
answer_text_of p a done = lines_of p a p.outputs ++ end_of done
