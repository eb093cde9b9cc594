-- The types that the shapes of the table ask, and expressions of types.
use Rattle.std.proofs.Common.{◌≡◌, ℕ, zero, suc, List, [], ◌∷◌, slice_get, Some, refl, sym, subst, arith}
use Rattle.std.proofs.lemmas.Option.{same_Some}
use Rattle.dom_definers.specs.declared.form.Form.{Form}
use Rattle.dom_definers.specs.declared.form.Form.TheVariants as forms
use Rattle.fzn_check.specs.Arguments.{IsOfType, AreArguments}
use Rattle.fzn_signatures.specs.Table.{Entry, table}
use Rattle.fzn_signatures.specs.declared.argument_type.ArgumentType.{ArgumentType}
use Rattle.fzn_signatures.specs.declared.argument_type.ArgumentType.TheVariants as types
use Rattle.fzn_signatures.specs.declared.shape.Shape.{Shape}
use Rattle.fzn_signatures.specs.declared.shape.Shape.TheVariants as shapes
use Rattle.fzn_syntax.specs.declared.declaration.Declaration.{Declaration}
use Rattle.fzn_syntax.specs.declared.expression.Expression.{Expression}

-- ---- the types that shapes ask

-- a constant or variable of this form
abbrev pub scalar : Form → ArgumentType
scalar forms.Bool = types.Boolean
scalar forms.Int = types.Integer

-- constants and variables of this form
abbrev pub array : Form → ArgumentType
array forms.Bool = types.BooleanArray
array forms.Int = types.IntegerArray

abbrev pub two_scalars : Form → Form → List ArgumentType
two_scalars f g = scalar f ∷ scalar g ∷ []

abbrev pub three_scalars : Form → Form → Form → List ArgumentType
three_scalars f g h = scalar f ∷ scalar g ∷ scalar h ∷ []

abbrev pub weighted : List ArgumentType
weighted = types.ConstantIntegerArray ∷ array forms.Int ∷ types.ConstantInteger ∷ []

abbrev pub weighted_giving : List ArgumentType
weighted_giving = types.ConstantIntegerArray ∷ array forms.Int ∷ types.ConstantInteger ∷ scalar forms.Bool ∷ []

-- these are the types of a built shape
abbrev pub AreTypesOf : Shape → List ArgumentType → Type 0
AreTypesOf (shapes.Linear r) ts = ts ≡ weighted
AreTypesOf (shapes.LinearReified r) ts = ts ≡ weighted_giving
AreTypesOf (shapes.Compared c) ts = (f : Form) × (ts ≡ two_scalars f f)
AreTypesOf (shapes.ComparedReified c) ts = (f : Form) × (ts ≡ three_scalars f f forms.Bool)
AreTypesOf shapes.Negation ts = ts ≡ two_scalars forms.Bool forms.Bool
AreTypesOf shapes.Conversion ts = ts ≡ two_scalars forms.Bool forms.Int
AreTypesOf shapes.Sum ts = ts ≡ three_scalars forms.Int forms.Int forms.Int
AreTypesOf shapes.Clause ts = ts ≡ array forms.Bool ∷ array forms.Bool ∷ []
AreTypesOf shapes.ClauseReified ts = ts ≡ array forms.Bool ∷ array forms.Bool ∷ scalar forms.Bool ∷ []
AreTypesOf shapes.Conjunction ts = ts ≡ array forms.Bool ∷ scalar forms.Bool ∷ []
AreTypesOf shapes.Disjunction ts = ts ≡ array forms.Bool ∷ scalar forms.Bool ∷ []
AreTypesOf shapes.And ts = ts ≡ three_scalars forms.Bool forms.Bool forms.Bool
AreTypesOf shapes.Or ts = ts ≡ three_scalars forms.Bool forms.Bool forms.Bool
AreTypesOf shapes.Xor ts = ts ≡ three_scalars forms.Bool forms.Bool forms.Bool
AreTypesOf shape ts = Unit {0}

abbrev pub HaveTypes : List Entry → Type 0
HaveTypes [] = Unit {0}
HaveTypes (e ∷ es) = AreTypesOf e.shape e.arguments × HaveTypes es

pub table_has_types : HaveTypes table
table_has_types = (
  refl,
  (
    tt,
    (
      refl,
      (
        tt,
        (
          refl,
          (
            refl,
            (
              refl,
              (
                refl,
                (
                  (forms.Bool, refl),
                  (
                    (forms.Bool, refl),
                    (
                      (forms.Bool, refl),
                      (
                        (forms.Bool, refl),
                        (
                          (forms.Bool, refl),
                          (
                            (forms.Bool, refl),
                            (
                              refl,
                              (
                                refl,
                                (
                                  refl,
                                  (
                                    tt,
                                    (
                                      tt,
                                      (
                                        tt,
                                        (
                                          tt,
                                          (
                                            tt,
                                            (
                                              tt,
                                              (
                                                tt,
                                                (
                                                  (forms.Int, refl),
                                                  (
                                                    (forms.Int, refl),
                                                    (
                                                      (forms.Int, refl),
                                                      (
                                                        (forms.Int, refl),
                                                        (
                                                          refl,
                                                          (
                                                            refl,
                                                            (
                                                              refl,
                                                              (
                                                                refl,
                                                                (
                                                                  refl,
                                                                  (
                                                                    refl,
                                                                    (
                                                                      (forms.Int, refl),
                                                                      (
                                                                        (forms.Int, refl),
                                                                        (
                                                                          tt,
                                                                          (
                                                                            tt,
                                                                            (
                                                                              (forms.Int, refl),
                                                                              (
                                                                                (forms.Int, refl),
                                                                                (
                                                                                  refl,
                                                                                  (
                                                                                    tt,
                                                                                    (
                                                                                      tt,
                                                                                      (
                                                                                        tt,
                                                                                        tt,
                                                                                      ),
                                                                                    ),
                                                                                  ),
                                                                                ),
                                                                              ),
                                                                            ),
                                                                          ),
                                                                        ),
                                                                      ),
                                                                    ),
                                                                  ),
                                                                ),
                                                              ),
                                                            ),
                                                          ),
                                                        ),
                                                      ),
                                                    ),
                                                  ),
                                                ),
                                              ),
                                            ),
                                          ),
                                        ),
                                      ),
                                    ),
                                  ),
                                ),
                              ),
                            ),
                          ),
                        ),
                      ),
                    ),
                  ),
                ),
              ),
            ),
          ),
        ),
      ),
    ),
  ),
)

pub types_at : (es : List Entry) → HaveTypes es → (k : ℕ) (e : Entry) → slice_get es k ≡ Some e → AreTypesOf e.shape e.arguments
types_at [] h k e at = absurd cc
types_at (x ∷ es) h zero e at = subst (λ (y : Entry). AreTypesOf y.shape y.arguments) (same_Some x e at) h.0
types_at (x ∷ es) h (suc k) e at = types_at es h.1 k e at

-- ---- expressions of types

abbrev pub AllOfType : List Declaration → List ArgumentType → List Expression → Type 0
AllOfType ds [] [] = Unit {0}
AllOfType ds [] (e ∷ es) = ⊥
AllOfType ds (t ∷ ts) [] = ⊥
AllOfType ds (t ∷ ts) (e ∷ es) = IsOfType ds t e × AllOfType ds ts es

pub all_of_type : (ds : List Declaration) (ts : List ArgumentType) (es : List Expression) → AreArguments ds ts es → AllOfType ds ts es
all_of_type ds [] [] h = tt
all_of_type ds [] (e ∷ es) h = absurd (omega (arith, h.0))
all_of_type ds (t ∷ ts) [] h = absurd (omega (arith, h.0))
all_of_type ds (t ∷ ts) (e ∷ es) h =
    let p = h.1 0 t refl in
    (subst (λ x. IsOfType ds t x) (sym (same_Some e p.0 p.1)) p.2, all_of_type ds ts es (omega (arith, h.0), λ k u at. h.1 (suc k) u at))

pub first : (ds : List Declaration) (t : ArgumentType) (ts : List ArgumentType) (e : Expression) (es : List Expression) → AllOfType ds (t ∷ ts) (e ∷ es) → IsOfType ds t e
first ds t ts e es h = h.0

pub rest : (ds : List Declaration) (t : ArgumentType) (ts : List ArgumentType) (e : Expression) (es : List Expression) → AllOfType ds (t ∷ ts) (e ∷ es) → AllOfType ds ts es
rest ds t ts e es h = h.1
