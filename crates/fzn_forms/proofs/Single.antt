-- What a constraint stands for is one thing at most.
use Rattle.std.proofs.Common.{◌≡◌, ℕ, ℤ, List, [], ◌∷◌, Some, slice_get, refl, sym, ◌∙◌, ap, subst}
use Rattle.any_kind.specs.declared.any.AnyKind.{AnyKind}
use Rattle.dom_definers.specs.declared.form.Form.{Form}
use Rattle.dom_definers.specs.declared.form.Form.TheVariants as forms
use Rattle.fzn_arguments.specs.Arguments.{HasOneScalarArg, HasOneArgList}
use Rattle.fzn_forms.specs.Kinds.{IsKindOf}
use Rattle.fzn_forms.specs.Made.{IsMade}
use Rattle.fzn_forms.specs.Reading.{IsConstant, IsScalar, IsArray, IsReadAs, AreReadAs}
use Rattle.fzn_forms.specs.declared.argument.Argument.{Argument}
use Rattle.fzn_forms.specs.declared.argument.Argument.TheVariants.{Integer, Integers, Scalar, Array}
use Rattle.fzn_signatures.specs.Table.{Entry, IsEntryOf, table}
use Rattle.fzn_signatures.specs.declared.argument_type.ArgumentType.{ArgumentType}
use Rattle.fzn_signatures.specs.declared.argument_type.ArgumentType.TheVariants as types
use Rattle.fzn_signatures.specs.declared.shape.Shape.{Shape}
use Rattle.fzn_signatures.specs.declared.shape.Shape.TheVariants as shapes
use Rattle.fzn_symbols.specs.Named.{names_of, AreDifferent}
use Rattle.fzn_syntax.specs.declared.constraint.Constraint.{Constraint}
use Rattle.fzn_syntax.specs.declared.declaration.Declaration.{Declaration}
use Rattle.fzn_syntax.specs.declared.expression.Basic.{Basic}
use Rattle.fzn_syntax.specs.declared.expression.Expression.{Expression}
use Rattle.fzn_syntax.specs.declared.expression.Expression.TheVariants as expressions
use Rattle.fzn_values.specs.Constants.{AreInts, AreIntsOf, HasOneInteger, HasOneList}

-- ---- kinds of arguments

pub one_made : (shape : Shape) (args : List Argument) (j k : AnyKind) → IsMade shape args j → IsMade shape args k → j ≡ k
one_made (shapes.Linear r) args j k h g = cc
one_made (shapes.LinearReified r) args j k h g = cc
one_made (shapes.Compared c) args j k h g = cc
one_made (shapes.ComparedReified c) args j k h g = cc
one_made shapes.Negation args j k h g = cc
one_made shapes.Conversion args j k h g = cc
one_made shapes.Sum args j k h g = cc
one_made shapes.Clause args j k h g = cc
one_made shapes.ClauseReified args j k h g = cc
one_made shapes.Conjunction args j k h g = cc
one_made shapes.Disjunction args j k h g = cc
one_made shapes.And args j k h g = cc
one_made shapes.Or args j k h g = cc
one_made shapes.Xor args j k h g = cc
one_made shapes.Product args j k h g = absurd h
one_made shapes.Maximum args j k h g = absurd h
one_made shapes.Minimum args j k h g = absurd h
one_made shapes.AbsoluteValue args j k h g = absurd h
one_made shapes.Element args j k h g = absurd h
one_made shapes.Membership args j k h g = absurd h
one_made shapes.MembershipReified args j k h g = absurd h
one_made shapes.AllDifferent args j k h g = absurd h
one_made shapes.Count args j k h g = absurd h
one_made shapes.Among args j k h g = absurd h
one_made shapes.AtMost args j k h g = absurd h
one_made shapes.AtLeast args j k h g = absurd h
one_made shapes.Cardinality args j k h g = absurd h

-- ---- entries of the table

abbrev pub HasOneRow : Type 0
HasOneRow = (i j : ℕ) (e f : Entry) → slice_get table i ≡ Some e → slice_get table j ≡ Some f → e.name ≡ f.name → i ≡ j

pub one_entry : HasOneRow → (name : List ℕ) (e f : Entry) → IsEntryOf name e → IsEntryOf name f → e ≡ f
one_entry one name e f h g =
    let same : h.0 ≡ g.0 = one h.0 g.0 e f h.1 g.1 (h.2 ∙ sym g.2) in
    some_one (sym (subst (λ k. slice_get table k ≡ Some e) same h.1) ∙ g.1)
  where
    some_one : {x y : Entry} → Some x ≡ Some y → x ≡ y
    some_one e = cc

-- ---- arguments

module _ (integer : HasOneInteger) (list : HasOneList) (scalar : HasOneScalarArg) (array : HasOneArgList) (ds : List Declaration) (different : AreDifferent (names_of ds)) where
  one_ints : (bs : List Basic) (ys zs : List ℤ) → AreInts ds bs ys → AreInts ds bs zs → ys ≡ zs
  one_ints [] [] [] h g = refl
  one_ints [] [] (z ∷ zs) h g = absurd g
  one_ints [] (y ∷ ys) zs h g = absurd h
  one_ints (b ∷ bs) [] zs h g = absurd h
  one_ints (b ∷ bs) (y ∷ ys) [] h g = absurd g
  one_ints (b ∷ bs) (y ∷ ys) (z ∷ zs) h g =
      let first : y ≡ z = integer ds b y z different h.0 g.0 in
      let others : ys ≡ zs = one_ints bs ys zs h.1 g.1 in
      cc

  one_ints_of : (e : Expression) (ys zs : List ℤ) → AreIntsOf ds e ys → AreIntsOf ds e zs → ys ≡ zs
  one_ints_of e ys zs h g =
      let same : h.0 ≡ g.0 = list ds e h.0 g.0 different h.1 g.1 in
      one_ints g.0 ys zs (subst (λ bs. AreInts ds bs ys) same h.2) g.2

  one_constant : (e : Expression) (y z : ℤ) → IsConstant ds e y → IsConstant ds e z → y ≡ z
  one_constant (expressions.Basic b) y z h g = integer ds b y z different h g
  one_constant (expressions.List bs) y z h g = absurd h

  one_scalar : (form : Form) (e : Expression) (a b : Argument) → IsScalar ds form e a → IsScalar ds form e b → a ≡ b
  one_scalar form e a b h g = h.1 ∙ ap Scalar (scalar ds form e h.0 g.0 different h.2 g.2) ∙ sym g.1

  one_array : (form : Form) (e : Expression) (a b : Argument) → IsArray ds form e a → IsArray ds form e b → a ≡ b
  one_array form e a b h g = h.1 ∙ ap Array (array ds form e h.0 g.0 different h.2 g.2) ∙ sym g.1

  one_read : (t : ArgumentType) (e : Expression) (a b : Argument) → IsReadAs ds t e a → IsReadAs ds t e b → a ≡ b
  one_read types.ConstantInteger e a b h g = h.1 ∙ ap Integer (one_constant e h.0 g.0 h.2 g.2) ∙ sym g.1
  one_read types.Set e a b h g = absurd h
  one_read types.ConstantIntegerArray e a b h g = h.1 ∙ ap Integers (one_ints_of e h.0 g.0 h.2 g.2) ∙ sym g.1
  one_read types.ConstantBooleanArray e a b h g = absurd h
  one_read types.Integer e a b h g = one_scalar forms.Int e a b h g
  one_read types.Boolean e a b h g = one_scalar forms.Bool e a b h g
  one_read types.IntegerArray e a b h g = one_array forms.Int e a b h g
  one_read types.BooleanArray e a b h g = one_array forms.Bool e a b h g

  all_read : (ts : List ArgumentType) (es : List Expression) (args others : List Argument) → AreReadAs ds ts es args → AreReadAs ds ts es others → args ≡ others
  all_read [] [] [] [] h g = refl
  all_read [] [] [] (b ∷ others) h g = absurd g
  all_read [] [] (a ∷ args) others h g = absurd h
  all_read [] (e ∷ es) args others h g = absurd h
  all_read (t ∷ ts) [] args others h g = absurd h
  all_read (t ∷ ts) (e ∷ es) [] others h g = absurd h
  all_read (t ∷ ts) (e ∷ es) (a ∷ args) [] h g = absurd g
  all_read (t ∷ ts) (e ∷ es) (a ∷ args) (b ∷ others) h g =
      let first : a ≡ b = one_read t e a b h.0 g.0 in
      let rest : args ≡ others = all_read ts es args others h.1 g.1 in
      cc

  -- ---- constraints

  module _ (row : HasOneRow) (c : Constraint) where
    -- by any entry of the name, and whatever the arguments stand for
    pub made_by : (e : Entry) (args : List Argument) (k : AnyKind) → IsEntryOf c.name.name e → AreReadAs ds e.arguments c.arguments args → IsKindOf ds c k → IsMade e.shape args k
    made_by e args k is read h =
        let same : h.entry ≡ e = one_entry row c.name.name h.entry e h.is_entry is in
        let these : args ≡ h.arguments = all_read e.arguments c.arguments args h.arguments read (subst (λ (f : Entry). AreReadAs ds f.arguments c.arguments h.arguments) same h.read) in
        subst (λ others. IsMade e.shape others k) (sym these) (subst (λ (f : Entry). IsMade f.shape h.arguments k) same h.made)

    pub one_kind : (j k : AnyKind) → IsKindOf ds c j → IsKindOf ds c k → j ≡ k
    one_kind j k h g = one_made h.entry.shape h.arguments j k h.made (made_by h.entry h.arguments k h.is_entry h.read g)
