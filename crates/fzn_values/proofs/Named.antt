-- Declarations by their names, and literals by the names that stand for them.
use Rattle.std.proofs.Common.{◌≡◌, ℕ, true, List, slice_get, None, Some, refl, sym, ◌∙◌, ap, subst}
use Rattle.std.proofs.lemmas.Option.{same_Some}
use Rattle.fzn_syntax.specs.declared.declaration.Declaration.{Declaration}
use Rattle.fzn_syntax.specs.declared.expression.Basic.{Basic}
use Rattle.fzn_syntax.specs.declared.expression.Basic.TheVariants as basics
use Rattle.fzn_syntax.specs.declared.expression.Expression.{Expression}
use Rattle.fzn_syntax.specs.declared.expression.Expression.TheVariants as expressions
use Rattle.fzn_symbols.specs.Named.{name_of, names_of, AreDifferent, IsNamed}
use Rattle.fzn_symbols.proofs.Places.{named_at, one_named}
use Rattle.fzn_values.specs.declared.literal.LiteralKind.{LiteralKind}
use Rattle.fzn_values.specs.declared.literal.LiteralKind.TheVariants as literals
use Rattle.fzn_values.specs.Literals.{is_truth, is_number, is_literal, name_in, named_by, value_for, StandsFor, itself, through}
use Rattle.fzn_values.specs.Links.{EndsAt, is_here, leads_on, NameStandsFor}
use Rattle.fzn_values.specs.Constants.{IsListOf, IsListAt}

-- a name is that of one declaration, at one place
pub one_place : (ds : List Declaration) (n : List ℕ) (j k : ℕ) (d e : Declaration) → AreDifferent (names_of ds) → slice_get ds j ≡ Some d → name_of d ≡ n → slice_get ds k ≡ Some e → name_of e ≡ n → j ≡ k
one_place ds n j k d e different at is at2 is2 = different j k n (named_at ds n j d at is) (named_at ds n k e at2 is2)

truth_unnamed : (b : Basic) (n : List ℕ) → is_truth b ≡ true → name_in b ≡ Some n → ⊥
truth_unnamed basics.True n is named = absurd cc
truth_unnamed basics.False n is named = absurd cc
truth_unnamed (basics.Name m) n is named = absurd cc
truth_unnamed (basics.Number z) n is named = absurd cc
truth_unnamed (basics.Range r) n is named = absurd cc
truth_unnamed (basics.Set zs) n is named = absurd cc

number_unnamed : (b : Basic) (n : List ℕ) → is_number b ≡ true → name_in b ≡ Some n → ⊥
number_unnamed basics.True n is named = absurd cc
number_unnamed basics.False n is named = absurd cc
number_unnamed (basics.Name m) n is named = absurd cc
number_unnamed (basics.Number z) n is named = absurd cc
number_unnamed (basics.Range r) n is named = absurd cc
number_unnamed (basics.Set zs) n is named = absurd cc

-- no literal is a name
pub literal_unnamed : (literal : LiteralKind) (e : Expression) (n : List ℕ) → is_literal literal e ≡ true → named_by e ≡ Some n → ⊥
literal_unnamed literals.Boolean (expressions.Basic b) n is named = truth_unnamed b n is named
literal_unnamed literals.Boolean (expressions.List bs) n is named = absurd cc
literal_unnamed literals.Integer (expressions.Basic b) n is named = number_unnamed b n is named
literal_unnamed literals.Integer (expressions.List bs) n is named = absurd cc
literal_unnamed literals.List (expressions.Basic b) n is named = absurd cc
literal_unnamed literals.List (expressions.List bs) n is named = absurd cc

module _ (ds : List Declaration) (literal : LiteralKind) where
  pub stands_literal : (e l : Expression) → StandsFor ds literal e l → is_literal literal l ≡ true
  stands_literal e l (itself is same) = subst (λ x. is_literal literal x ≡ true) (sym same) is
  stands_literal e l (through n d v named is has more) = stands_literal v l more

  pub written : (e l : Expression) → named_by e ≡ None → StandsFor ds literal e l → (is_literal literal e ≡ true) × (l ≡ e)
  written e l none (itself is same) = (is, same)
  written e l none (through n d v named is has more) = absurd cc

  pub by_name : (e l : Expression) (n : List ℕ) → named_by e ≡ Some n → StandsFor ds literal e l → NameStandsFor ds literal n l
  by_name e l n is_name (itself is same) = absurd (literal_unnamed literal e n is is_name)
  by_name e l n is_name (through m d v named is has more) = (d, v, subst (λ x. IsNamed ds x d) (same_Some m n (sym named ∙ is_name)) is, has, more)

  pub of_name : (e l : Expression) (n : List ℕ) → named_by e ≡ Some n → NameStandsFor ds literal n l → StandsFor ds literal e l
  of_name e l n is_name h = through n h.0 h.1 is_name h.2 h.3 h.4

  -- an expression stands for one literal at most
  pub one_literal : AreDifferent (names_of ds) → (e l m : Expression) → StandsFor ds literal e l → StandsFor ds literal e m → l ≡ m
  one_literal different e l m (itself is same) (itself is2 same2) = same ∙ sym same2
  one_literal different e l m (itself is same) (through n d v named is2 has more) = absurd (literal_unnamed literal e n is named)
  one_literal different e l m (through n d v named is has more) other =
      let h = by_name e m n named other in
      let same : d ≡ h.0 = one_named ds n h.0 d different h.2 is in
      let values : v ≡ h.1 = same_Some v h.1 (sym has ∙ ap (value_for literal) same ∙ h.3) in
      one_literal different v l m more (subst (λ x. StandsFor ds literal x m) (sym values) h.4)

  -- the value from which a chain begins stands for the literal at its end
  pub end_stands : (d : Declaration) (k : ℕ) → EndsAt ds literal d k
      → (v l : Expression) × (f : Declaration) × (value_for literal d ≡ Some v) × StandsFor ds literal v l × (slice_get ds k ≡ Some f) × (value_for literal f ≡ Some l)
  end_stands d k (is_here l at has is) = (l, l, d, has, itself is refl, at, has)
  end_stands d k (leads_on v n next has named is more) =
      let r = end_stands next k more in
      (v, r.1, r.2, has, through n next r.0 named is r.3 r.4, r.5, r.6)

literal_list : (l : Expression) → is_literal literals.List l ≡ true → (bs : List Basic) × (l ≡ expressions.List bs)
literal_list (expressions.Basic b) is = absurd cc
literal_list (expressions.List bs) is = (bs, refl)

-- the list at whose declaration a chain ends is that for which the expression stands
pub list_declared : (ds : List Declaration) (e : Expression) (k : ℕ) → IsListAt ds e k
    → (d : Declaration) × (bs : List Basic) × (slice_get ds k ≡ Some d) × (value_for literals.List d ≡ Some (expressions.List bs)) × IsListOf ds e bs
list_declared ds e k h =
    let r = end_stands ds literals.List h.2.0 k h.2.2 in
    let l = literal_list r.1 (stands_literal ds literals.List r.0 r.1 r.4) in
    let s : StandsFor ds literals.List e r.1 = of_name ds literals.List e r.1 h.0 h.1 (h.2.0, r.0, h.2.1, r.3, r.4) in
    (r.2, l.0, r.5, r.6 ∙ ap Some l.1, subst (λ x. StandsFor ds literals.List e x) l.1 s)
