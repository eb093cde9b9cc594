-- Which places of a relation may be those of a variable that it defines.
use Rattle.std.specs.Prelude.{◌+◌, ◌&&◌, ◌||◌, Bool, false, not, List, ◌++◌, take, drop, ℕ, ℤ, pos, negsuc, Option, Some, None, slice_get}
use Rattle.std.specs.Ordering.{int_eq}
use Rattle.dom_core.specs.declared.arg.Arg.{Arg}
use Rattle.dom_core.specs.declared.arg.Arg.TheVariants.{Var, Const}
use Rattle.kind_law.specs.Argument.{is_listed}
use Rattle.kind_parts.specs.Relation.{is_equality}
use Rattle.kind_sum.specs.Sum.{vars_of}
use Rattle.kind_sum.specs.SumRelation.{SumRelation}
use Rattle.kind_sum.specs.declared.term.Term.{Term}

-- the coefficient is 1 or -1
abbrev pub is_unit : ℤ → Bool
is_unit c = int_eq c (pos 1) || int_eq c (negsuc 0)

-- the argument is a variable that none of the terms has
abbrev pub is_alone : Arg → List Term → Bool
is_alone (Var u) others = not (is_listed u (vars_of others))
is_alone (Const c) others = false

-- the term has the coefficient 1 or -1, and a variable that none of the others has
abbrev pub is_unit_beside : Option Term → List Term → Bool
is_unit_beside None others = false
is_unit_beside (Some t) others = is_unit t.coef && is_alone t.arg others

-- the terms but for the one at the place
abbrev pub others_at : List Term → ℕ → List Term
others_at ts place = take place ts ++ drop (place + 1) ts

-- the relation is an equation whose variable at this place occurs once, with the coefficient 1 or -1
abbrev pub can_define : SumRelation → ℕ → Bool
can_define k place = is_equality k.relation && is_unit_beside (slice_get k.terms place) (others_at k.terms place)
