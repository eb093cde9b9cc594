-- Items in which the steps before find no fault have few entries: 64 bits hold their number.
use Rattle.std.proofs.Common.{◌≡◌, ◌⊎◌, inl, inr, ℕ, zero, suc, ◌+◌, ◌*◌, ◌^◌, ◌<◌, ◌≤◌, ℤ, pos, negsuc, Bool, true, cond, List, [], ◌∷◌, ◌++◌, length, slice_get, Option, Some, None, Ok, refl, sym, ap, ◌∙◌, subst, arith}
use Rattle.std.specs.Prelude.{nat_lt}
use Rattle.std.specs.List.{find, flat_map}
use Rattle.std.proofs.lemmas.Bool.{cases_Bool}
use Rattle.std.proofs.lemmas.Option.{same_Some}
use Rattle.fzn_limits.specs.Entries.{natural, declared_entries, is_named, entries_where_declared, named_entries, basic_entries, expression_entries, constraint_entries, entries_of}
use Rattle.fzn_limits.specs.Sizes.{limit, lengths_of_expression, lengths_of_value, lengths_of_declaration, lengths_of_constraint, first_above, IsCounted}
use Rattle.fzn_limits.proofs.Firsts.{both_none, none_at, not_above}
use Rattle.fzn_limits.proofs.Sums.{bounded}
use Rattle.fzn_check.specs.DeclarationFaults as declared
use Rattle.fzn_check.specs.Values.{value_of}
use Rattle.fzn_check.proofs.LengthLaws.{short_or_long, parameters_short, variables_short}
use Rattle.fzn_lower.specs.Steps.{FindsSize, FindsName, FindsDeclaration, FindsConstraint}
use Rattle.fzn_check.specs.ConstraintFaults as posted
use Rattle.fzn_check.specs.declared.fault.Fault.TheVariants as faults
use Rattle.fzn_check.specs.Posted.{IsPosted}
use Rattle.fzn_symbols.specs.Named.{names_of, AreDifferent}
use Rattle.fzn_syntax.specs.declared.constraint.Constraint.{Constraint}
use Rattle.fzn_syntax.specs.declared.declaration.Declaration.{Declaration}
use Rattle.fzn_syntax.specs.declared.declaration.Declaration.TheVariants as declarations
use Rattle.fzn_syntax.specs.declared.expression.Basic.{Basic}
use Rattle.fzn_syntax.specs.declared.expression.Basic.TheVariants as basics
use Rattle.fzn_syntax.specs.declared.expression.Expression.{Expression}
use Rattle.fzn_syntax.specs.declared.expression.Expression.TheVariants as expressions
use Rattle.fzn_syntax.specs.declared.items.Items.{Items}
use Rattle.fzn_signatures.proofs.Few.{few_arguments}

-- ---- lists that are written

expression_list : (e : Expression) (bs : List Basic) → e ≡ expressions.List bs → first_above (lengths_of_expression e) ≡ None → length bs ≤ limit
expression_list e bs is none = let here : first_above (lengths_of_expression (expressions.List bs)) ≡ None = subst (λ x. first_above (lengths_of_expression x) ≡ None) is none in not_above limit (length bs) here

value_list : (v : Option Expression) (bs : List Basic) → v ≡ Some (expressions.List bs) → first_above (lengths_of_value v) ≡ None → length bs ≤ limit
value_list None bs is none = absurd cc
value_list (Some e) bs is none = expression_list e bs (same_Some e (expressions.List bs) is) none

declared_list : (d : Declaration) (bs : List Basic) → value_of d ≡ Some (expressions.List bs) → first_above (lengths_of_declaration d) ≡ None → length bs ≤ limit
declared_list (declarations.Parameter p) bs is none = expression_list p.value bs (same_Some p.value (expressions.List bs) is) none
declared_list (declarations.Variable v) bs is none = value_list v.value bs is none
declared_list (declarations.ParameterArray a) bs is none = expression_list a.entries.value bs (same_Some a.entries.value (expressions.List bs) is) none
declared_list (declarations.VariableArray a) bs is none = expression_list a.value bs (same_Some a.value (expressions.List bs) is) none

-- ---- what a search finds stands in the list

found_there : {X : Type 0} (p : X → Bool) (xs : List X) (x : X) → find p xs ≡ Some x → (k : ℕ) × (slice_get xs k ≡ Some x)
found_there p [] x found = absurd cc
found_there p (y ∷ ys) x found =
    elim (cases_Bool (p y)) [
      | inl e ↦ (0, let here : Some y ≡ Some x = rw e at found in here)
      | inr e ↦ (let r = found_there p ys x (rw e at found) in (suc r.0, r.1))
    ]

zero_below : (n : ℕ) → 0 ≤ n
zero_below n = omega arith

natural_short : (z : ℤ) (most : ℕ) → ((m : ℕ) → z ≡ pos m → m ≤ most) → natural z ≤ most
natural_short (pos n) most short = short n refl
natural_short (negsuc n) most short = zero_below most

module _ (t : Items) (sized : FindsSize t None) (named : FindsName t None) (typed : FindsDeclaration t None) where
  parts : (first_above (flat_map lengths_of_declaration t.declarations) ≡ None) × (first_above (flat_map lengths_of_constraint t.constraints) ≡ None)
  parts = both_none (λ n. nat_lt limit n) (flat_map lengths_of_declaration t.declarations) (flat_map lengths_of_constraint t.constraints) sized.2

  written : (k : ℕ) (d : Declaration) (bs : List Basic) → slice_get t.declarations k ≡ Some d → value_of d ≡ Some (expressions.List bs) → length bs ≤ limit
  written k d bs at is = declared_list d bs is (none_at (λ n. nat_lt limit n) lengths_of_declaration t.declarations k d at parts.0)

  different : AreDifferent (names_of t.declarations)
  different = named.1

  -- no array is declared to have more entries than a list may have
  declared_short : (k : ℕ) (d : Declaration) → slice_get t.declarations k ≡ Some d → declared_entries d ≤ limit
  declared_short k (declarations.Parameter p) at = zero_below limit
  declared_short k (declarations.Variable v) at = zero_below limit
  declared_short k (declarations.ParameterArray a) at = natural_short a.index.last limit (λ m last. parameters_short t.declarations limit different typed written k m a at last)
  declared_short k (declarations.VariableArray a) at = natural_short a.index.last limit (λ m last. variables_short t.declarations limit different typed written k m a at last)

  found_short : (n : List ℕ) (o : Option Declaration) → find (is_named n) t.declarations ≡ o → entries_where_declared o ≤ limit
  found_short n None found = zero_below limit
  found_short n (Some d) found = let r = found_there (is_named n) t.declarations d found in declared_short r.0 d r.1

  basic_short : (b : Basic) → basic_entries t.declarations b ≤ limit
  basic_short basics.True = zero_below limit
  basic_short basics.False = zero_below limit
  basic_short (basics.Name n) = found_short n.name (find (is_named n.name) t.declarations) refl
  basic_short (basics.Number z) = zero_below limit
  basic_short (basics.Range r) = zero_below limit
  basic_short (basics.Set zs) = zero_below limit

  expression_short : (e : Expression) → first_above (lengths_of_expression e) ≡ None → expression_entries t.declarations e ≤ limit
  expression_short (expressions.Basic b) none = basic_short b
  expression_short (expressions.List bs) none = not_above limit (length bs) none

  module _ (posted_fine : FindsConstraint t None) where
    -- a constraint that is well-typed has no more arguments than the table says
    few : (k : ℕ) (c : Constraint) → slice_get t.constraints k ≡ Some c → length c.arguments ≤ 4
    few k c at =
        elim (short_or_long (length c.arguments) 4) [
          | inl short ↦ short
          | inr long ↦ absurd (posted_fine k (faults.IllTyped c.name.at)
              (c, at, ((λ float. posted_fine k (faults.FloatOrSet c.name.at) (c, at, (float, refl))), too_many c long, refl)))
        ]
      where
        too_many : (c : Constraint) → 4 < length c.arguments → IsPosted t.declarations c → ⊥
        too_many c long p = let table = few_arguments c.name.name p.0 p.1 in let size = p.2.0.0 in absurd (omega (arith, long, table, size))

    constraint_short : (k : ℕ) (c : Constraint) → slice_get t.constraints k ≡ Some c → constraint_entries t.declarations c ≤ 400000
    constraint_short k c at =
        let none : first_above (lengths_of_constraint c) ≡ None = none_at (λ n. nat_lt limit n) lengths_of_constraint t.constraints k c at parts.1 in
        let sum : constraint_entries t.declarations c ≤ length c.arguments * 100000 = bounded (expression_entries t.declarations) c.arguments 100000 (λ j e there. expression_short e (none_at (λ n. nat_lt limit n) lengths_of_expression c.arguments j e there none)) in
        omega (arith, sum, few k c at)

    pub entries_fit : entries_of t.declarations t.constraints < 2 ^ 64
    entries_fit =
        let sum : entries_of t.declarations t.constraints ≤ length t.constraints * 400000 = bounded (constraint_entries t.declarations) t.constraints 400000 constraint_short in
        let many : length t.constraints ≤ 100000 = sized.1 in
        omega (arith, sum, many)
