-- Constraints of built shapes have kinds.
use Rattle.std.proofs.Common.{◌≡◌, List, [], ◌∷◌, refl, sym, ap, subst}
use Rattle.any_kind.specs.declared.any.AnyKind.{AnyKind}
use Rattle.any_kind.specs.declared.any.AnyKind.TheVariants as kinds
use Rattle.dom_definers.specs.declared.form.Form.TheVariants as forms
use Rattle.fzn_check.specs.DeclarationFaults.{IsFine}
use Rattle.fzn_check.specs.Shapes.{MeetsShape}
use Rattle.fzn_forms.specs.Made.{IsMade, sum}
use Rattle.fzn_forms.specs.Reading.{AreReadAs}
use Rattle.fzn_forms.specs.declared.argument.Argument.{Argument}
use Rattle.fzn_forms.specs.declared.argument.Argument.TheVariants.{Integers, Array}
use Rattle.fzn_signatures.specs.Table.{table}
use Rattle.fzn_signatures.specs.declared.argument_type.ArgumentType.{ArgumentType}
use Rattle.fzn_signatures.specs.declared.argument_type.ArgumentType.TheVariants as types
use Rattle.fzn_signatures.specs.declared.shape.Shape.{Shape}
use Rattle.fzn_signatures.specs.declared.shape.Shape.TheVariants as shapes
use Rattle.fzn_symbols.specs.Named.{names_of, AreDifferent}
use Rattle.fzn_syntax.specs.declared.declaration.Declaration.{Declaration}
use Rattle.fzn_syntax.specs.declared.expression.Expression.{Expression}
use Rattle.fzn_totality.proofs.Chains.{Likely}
use Rattle.fzn_totality.specs.Totality.{IsBuilt, HasKind}
use Rattle.fzn_totality.proofs.Types.{scalar, array, two_scalars, three_scalars, weighted, weighted_giving, AreTypesOf, types_at, table_has_types, AllOfType, all_of_type}
use Rattle.fzn_totality.proofs.Together.{by_two, by_three, by_list_giving, by_lists_giving, by_lists, by_weighted, by_bound, by_bound_giving, IsBound, IsBoundGiving}

module _ (ds : List Declaration) (different : AreDifferent (names_of ds)) (fine : IsFine ds) where
  -- the shape makes a kind of what the expressions stand for by these types
  record Makes (shape : Shape) (ts : List ArgumentType) (es : List Expression) : Type 0 where
    args : List Argument
    kind : AnyKind
    read : AreReadAs ds ts es args
    made : IsMade shape args kind

  by_types : (shape : Shape) (ts us : List ArgumentType) (es : List Expression) → ts ≡ us → AllOfType ds ts es → (AllOfType ds us es → Likely (Makes shape us es)) → Likely (Makes shape ts es)
  by_types shape ts us es same h f = subst (λ vs. Likely (Makes shape vs es)) (sym same) (f (subst (λ vs. AllOfType ds vs es) same h))

  by_shape : (shape : Shape) (ts : List ArgumentType) (es : List Expression) → IsBuilt shape → AreTypesOf shape ts → AllOfType ds ts es → MeetsShape ds shape es → Likely (Makes shape ts es)
  by_shape (shapes.Linear r) ts es built is h meets =
      by_types (shapes.Linear r) ts weighted es is h (λ g none.
      by_weighted ds different fine (types.ConstantInteger ∷ []) es (IsBound ds different fine) (by_bound ds different fine) g meets (λ q.
      none (record {
        args = Integers q.0 ∷ Array q.1 ∷ q.3;
        kind = kinds.Linear (sum q.0 q.1 r q.5.0);
        read = q.6;
        made = (q.0, q.1, q.5.0, (ap (λ args. Integers q.0 ∷ Array q.1 ∷ args) q.5.1, q.4), refl);
      })))
  by_shape (shapes.LinearReified r) ts es built is h meets =
      by_types (shapes.LinearReified r) ts weighted_giving es is h (λ g none.
      by_weighted ds different fine (types.ConstantInteger ∷ scalar forms.Bool ∷ []) es (IsBoundGiving ds different fine) (by_bound_giving ds different fine) g meets (λ q.
      none (record {
        args = Integers q.0 ∷ Array q.1 ∷ q.3;
        kind = kinds.LinearReified (record { sum = sum q.0 q.1 r q.5.0; output = q.5.1 });
        read = q.6;
        made = (q.0, q.1, q.5.0, q.5.1, (ap (λ args. Integers q.0 ∷ Array q.1 ∷ args) q.5.2, q.4), refl);
      })))
  by_shape (shapes.Compared c) ts es built is h meets =
      by_types (shapes.Compared c) ts (two_scalars is.0 is.0) es is.1 h (λ g none.
      by_two ds different fine is.0 is.0 es g (λ q. none (record { args = _; kind = _; read = q.2; made = (q.0, q.1, refl, refl) })))
  by_shape (shapes.ComparedReified c) ts es built is h meets =
      by_types (shapes.ComparedReified c) ts (three_scalars is.0 is.0 forms.Bool) es is.1 h (λ g none.
      by_three ds different fine is.0 is.0 forms.Bool es g (λ q. none (record { args = _; kind = _; read = q.3; made = (q.0, q.1, q.2, refl, refl) })))
  by_shape shapes.Negation ts es built is h meets =
      by_types shapes.Negation ts (two_scalars forms.Bool forms.Bool) es is h (λ g none.
      by_two ds different fine forms.Bool forms.Bool es g (λ q. none (record { args = _; kind = _; read = q.2; made = (q.0, q.1, refl, refl) })))
  by_shape shapes.Conversion ts es built is h meets =
      by_types shapes.Conversion ts (two_scalars forms.Bool forms.Int) es is h (λ g none.
      by_two ds different fine forms.Bool forms.Int es g (λ q. none (record { args = _; kind = _; read = q.2; made = (q.0, q.1, refl, refl) })))
  by_shape shapes.Sum ts es built is h meets =
      by_types shapes.Sum ts (three_scalars forms.Int forms.Int forms.Int) es is h (λ g none.
      by_three ds different fine forms.Int forms.Int forms.Int es g (λ q. none (record { args = _; kind = _; read = q.3; made = (q.0, q.1, q.2, refl, refl) })))
  by_shape shapes.Clause ts es built is h meets =
      by_types shapes.Clause ts (array forms.Bool ∷ array forms.Bool ∷ []) es is h (λ g none.
      by_lists ds different fine es g (λ q. none (record { args = _; kind = _; read = q.2; made = (q.0, q.1, refl, refl) })))
  by_shape shapes.ClauseReified ts es built is h meets =
      by_types shapes.ClauseReified ts (array forms.Bool ∷ array forms.Bool ∷ scalar forms.Bool ∷ []) es is h (λ g none.
      by_lists_giving ds different fine es g (λ q. none (record { args = _; kind = _; read = q.3; made = (q.0, q.1, q.2, refl, refl) })))
  by_shape shapes.Conjunction ts es built is h meets =
      by_types shapes.Conjunction ts (array forms.Bool ∷ scalar forms.Bool ∷ []) es is h (λ g none.
      by_list_giving ds different fine es g (λ q. none (record { args = _; kind = _; read = q.2; made = (q.0, q.1, refl, refl) })))
  by_shape shapes.Disjunction ts es built is h meets =
      by_types shapes.Disjunction ts (array forms.Bool ∷ scalar forms.Bool ∷ []) es is h (λ g none.
      by_list_giving ds different fine es g (λ q. none (record { args = _; kind = _; read = q.2; made = (q.0, q.1, refl, refl) })))
  by_shape shapes.And ts es built is h meets =
      by_types shapes.And ts (three_scalars forms.Bool forms.Bool forms.Bool) es is h (λ g none.
      by_three ds different fine forms.Bool forms.Bool forms.Bool es g (λ q. none (record { args = _; kind = _; read = q.3; made = (q.0, q.1, q.2, refl, refl) })))
  by_shape shapes.Or ts es built is h meets =
      by_types shapes.Or ts (three_scalars forms.Bool forms.Bool forms.Bool) es is h (λ g none.
      by_three ds different fine forms.Bool forms.Bool forms.Bool es g (λ q. none (record { args = _; kind = _; read = q.3; made = (q.0, q.1, q.2, refl, refl) })))
  by_shape shapes.Xor ts es built is h meets =
      by_types shapes.Xor ts (three_scalars forms.Bool forms.Bool forms.Bool) es is h (λ g none.
      by_three ds different fine forms.Bool forms.Bool forms.Bool es g (λ q. none (record { args = _; kind = _; read = q.3; made = (q.0, q.1, q.2, refl, refl) })))
  by_shape shapes.Product ts es built is h meets = absurd built
  by_shape shapes.Maximum ts es built is h meets = absurd built
  by_shape shapes.Minimum ts es built is h meets = absurd built
  by_shape shapes.AbsoluteValue ts es built is h meets = absurd built
  by_shape shapes.Element ts es built is h meets = absurd built
  by_shape shapes.Membership ts es built is h meets = absurd built
  by_shape shapes.MembershipReified ts es built is h meets = absurd built
  by_shape shapes.AllDifferent ts es built is h meets = absurd built
  by_shape shapes.Count ts es built is h meets = absurd built
  by_shape shapes.Among ts es built is h meets = absurd built
  by_shape shapes.AtMost ts es built is h meets = absurd built
  by_shape shapes.AtLeast ts es built is h meets = absurd built
  by_shape shapes.Cardinality ts es built is h meets = absurd built

pub has_kind : HasKind
has_kind ds c different fine posted built none =
    let e = posted.0 in
    let listed = posted.1 in
    by_shape ds different fine e.shape e.arguments c.arguments built (types_at table table_has_types listed.0 e listed.1) (all_of_type ds e.arguments c.arguments posted.2.0) posted.2.1
    (λ m. none m.kind (record { entry = e; is_entry = listed; arguments = m.args; read = m.read; made = m.made }))
