-- Which variable a written constraint defines.
use Rattle.std.specs.Prelude.{◌≡◌, ◌==◌, ◌&&◌, ◌⊎◌, if◌then◌else◌, ℕ, Bool, true, false, List, [], ◌∷◌, Option, Some, None, slice_index_or, slice_set, codes}
use Rattle.any_kind.specs.Any.{any_functional, any_output}
use Rattle.any_kind.specs.declared.any.AnyKind.{AnyKind}
use Rattle.any_kind.specs.declared.any.AnyKind.TheVariants as kinds
use Rattle.dom_core.specs.declared.var_id.VarId.{VarId}
use Rattle.dom_definers.specs.declared.form.Form.{Form}
use Rattle.dom_definers.specs.declared.form.Form.TheVariants as forms
use Rattle.dom_model.specs.Solved.{place_from}
use Rattle.fzn_arguments.specs.Numbers.{IsNumbered}
use Rattle.fzn_lex.specs.declared.words.What.{What}
use Rattle.fzn_lex.specs.declared.words.What.TheVariants as what
use Rattle.fzn_model.specs.Outputs.{is_named}
use Rattle.fzn_signatures.specs.Table.{Entry, IsEntryOf}
use Rattle.fzn_signatures.specs.declared.shape.Shape.TheVariants.{Conversion}
use Rattle.fzn_syntax.specs.declared.annotation.Annotation.{Annotation}
use Rattle.fzn_syntax.specs.declared.declaration.Declaration.{Declaration}
use Rattle.fzn_words.specs.declared.word.Word.{Word}
use Rattle.kind_sum.specs.Place.{can_define}
use Rattle.kind_sum.specs.SumRelation.{SumRelation}

-- ---- annotations

-- the word is the opening parenthesis
abbrev pub opens : What → Bool
opens what.LeftParen = true
opens _ = false

-- the word is a name, a reserved word among them, by which nothing is declared
abbrev pub names : What → Bool
names what.Name = true
names _ = false

-- the word is the closing parenthesis
abbrev pub closes : What → Bool
closes what.RightParen = true
closes _ = false

-- the name in parentheses that the words are, where they are no more and no less
abbrev pub lone_name : List Word → Option (List ℕ)
lone_name [] = None
lone_name (l ∷ []) = None
lone_name (l ∷ n ∷ []) = None
lone_name (l ∷ n ∷ r ∷ []) = if opens l.what && names n.what && closes r.what then Some n.text else None
lone_name (l ∷ n ∷ r ∷ w ∷ ws) = None

-- the name that is all of an annotation's arguments
abbrev pub argument_name : Option (List Word) → Option (List ℕ)
argument_name None = None
argument_name (Some ws) = lone_name ws

-- the name that the annotation asks to have defined
abbrev pub asked_name : Annotation → Option (List ℕ)
asked_name a = if is_named (codes "defines_var") a then argument_name a.arguments else None

-- ---- shapes

-- the relation is an equation that can be solved for the variable at this place
abbrev pub is_solvable : SumRelation → Option ℕ → Bool
is_solvable k None = false
is_solvable k (Some i) = can_define k i

-- the kind has a functional shape for the variable: it gives it its value, or is an equation that can be solved for it
abbrev pub has_shape : AnyKind → VarId → Bool
has_shape (kinds.Linear k) x = is_solvable k (place_from 0 x k.terms)
has_shape k x = any_functional k && ((any_output k).0 == x.0)

-- a constraint of this name makes an integer of a truth value
abbrev pub Converts : List ℕ → Type 0
Converts name = (e : Entry) × IsEntryOf name e × (e.shape ≡ Conversion)

-- such a constraint never defines its truth value
abbrev pub IsBarred : Form → List ℕ → Type 0
IsBarred forms.Bool name = Converts name
IsBarred forms.Int name = ⊥

-- ---- definitions

-- whether the variable is defined
abbrev pub is_defined : List Bool → VarId → Bool
is_defined defined x = slice_index_or defined x.0 false

-- the variable, if there is one, is defined too
abbrev pub with_defined : List Bool → Option VarId → List Bool
with_defined defined None = defined
with_defined defined (Some x) = slice_set defined x.0 true

-- a constraint of this name and kind may define the variable of this form, where some are defined before
pub record MayDefine (defined : List Bool) (name : List ℕ) (k : AnyKind) (form : Form) (x : VarId) : Type 0 where
  pub allowed : IsBarred form name → ⊥
  pub shaped : has_shape k x ≡ true
  pub free : is_defined defined x ≡ false

-- it may define the variable of this form that has the name
abbrev pub DefinesNamed : List Declaration → List Bool → List ℕ → AnyKind → List ℕ → Form → VarId → Type 0
DefinesNamed ds defined name k n form x = IsNumbered ds form n x × MayDefine defined name k form x

-- it defines this variable by the annotation
abbrev pub DefinesBy : List Declaration → List Bool → List ℕ → AnyKind → Annotation → VarId → Type 0
DefinesBy ds defined name k a x = (n : List ℕ) × (asked_name a ≡ Some n) × (form : Form) × DefinesNamed ds defined name k n form x

-- it defines this variable, or none: by the first of its annotations by which it defines one
abbrev pub Defines : List Declaration → List Bool → List ℕ → AnyKind → List Annotation → Option VarId → Type 0
Defines ds defined name k [] r = r ≡ None
Defines ds defined name k (a ∷ rest) r =
    ((x : VarId) × DefinesBy ds defined name k a x × (r ≡ Some x)) ⊎ (((x : VarId) → DefinesBy ds defined name k a x → ⊥) × Defines ds defined name k rest r)
