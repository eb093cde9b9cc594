-- The kinds that constraints make of their arguments.
use Rattle.std.specs.Prelude.{◌≡◌, ℤ, pos, negsuc, List, [], ◌∷◌, length}
use Rattle.any_kind.specs.declared.any.AnyKind.{AnyKind}
use Rattle.any_kind.specs.declared.any.AnyKind.TheVariants as kinds
use Rattle.dom_core.specs.declared.arg.Arg.{Arg}
use Rattle.dom_core.specs.declared.relation.Relation.{Relation}
use Rattle.dom_core.specs.declared.relation.Relation.TheVariants as relations
use Rattle.fzn_forms.specs.declared.argument.Argument.{Argument}
use Rattle.fzn_forms.specs.declared.argument.Argument.TheVariants.{Integer, Integers, Scalar, Array}
use Rattle.fzn_signatures.specs.declared.shape.Comparison.{Comparison}
use Rattle.fzn_signatures.specs.declared.shape.Comparison.TheVariants as comparisons
use Rattle.fzn_signatures.specs.declared.shape.Shape.{Shape}
use Rattle.fzn_signatures.specs.declared.shape.Shape.TheVariants as shapes
use Rattle.kind_truths.specs.Connective.{conjunction_of, disjunction_of, clause_truth_of}
use Rattle.kind_truths.specs.Operand.{operands_of}
use Rattle.kind_sum.specs.Sum.{terms_of}
use Rattle.kind_sum.specs.SumRelation.{SumRelation}

-- ---- what arguments are

-- two, neither of them a list
abbrev pub AreTwo : List Argument → Arg → Arg → Type 0
AreTwo args x y = args ≡ Scalar x ∷ Scalar y ∷ []

-- three, none of them a list
abbrev pub AreThree : List Argument → Arg → Arg → Arg → Type 0
AreThree args x y z = args ≡ Scalar x ∷ Scalar y ∷ Scalar z ∷ []

-- two lists
abbrev pub AreLists : List Argument → List Arg → List Arg → Type 0
AreLists args ps ns = args ≡ Array ps ∷ Array ns ∷ []

-- two lists, and an output
abbrev pub AreListsGiving : List Argument → List Arg → List Arg → Arg → Type 0
AreListsGiving args ps ns r = args ≡ Array ps ∷ Array ns ∷ Scalar r ∷ []

-- a list, and an output
abbrev pub IsListGiving : List Argument → List Arg → Arg → Type 0
IsListGiving args ps r = args ≡ Array ps ∷ Scalar r ∷ []

-- coefficients, as many other arguments, and a bound
abbrev pub AreWeighted : List Argument → List ℤ → List Arg → ℤ → Type 0
AreWeighted args cs xs bound = (args ≡ Integers cs ∷ Array xs ∷ Integer bound ∷ []) × (length cs ≡ length xs)

-- these, and an output
abbrev pub AreWeightedGiving : List Argument → List ℤ → List Arg → ℤ → Arg → Type 0
AreWeightedGiving args cs xs bound r = (args ≡ Integers cs ∷ Array xs ∷ Integer bound ∷ Scalar r ∷ []) × (length cs ≡ length xs)

-- ---- sums

-- the sum of the arguments, each times its coefficient, in this relation to the bound
abbrev pub sum : List ℤ → List Arg → Relation → ℤ → SumRelation
sum cs xs relation bound = record { terms = terms_of cs xs; relation = relation; bound = bound }

-- the relation of x - y to its bound, where x is compared with y
abbrev pub relation_of : Comparison → Relation
relation_of comparisons.Equal = relations.Equal
relation_of comparisons.Differ = relations.Differ
relation_of comparisons.AtMost = relations.AtMost
relation_of comparisons.Below = relations.AtMost

-- the bound of x - y, where x is compared with y
abbrev pub bound_of : Comparison → ℤ
bound_of comparisons.Equal = pos 0
bound_of comparisons.Differ = pos 0
bound_of comparisons.AtMost = pos 0
bound_of comparisons.Below = negsuc 0

-- x compared with y: x - y against 0, or at most -1
abbrev pub difference : Comparison → Arg → Arg → SumRelation
difference c x y = sum (pos 1 ∷ negsuc 0 ∷ []) (x ∷ y ∷ []) (relation_of c) (bound_of c)

-- two truth values differ: a + b = 1
abbrev pub opposites : Arg → Arg → SumRelation
opposites a b = sum (pos 1 ∷ pos 1 ∷ []) (a ∷ b ∷ []) relations.Equal (pos 1)

-- z is the sum of the others: x + y - z = 0
abbrev pub addition : Arg → Arg → Arg → SumRelation
addition x y z = sum (pos 1 ∷ pos 1 ∷ negsuc 0 ∷ []) (x ∷ y ∷ z ∷ []) relations.Equal (pos 0)

-- ---- kinds

-- the kind of this shape over these arguments; other shapes aren't built
abbrev pub IsMade : Shape → List Argument → AnyKind → Type 0
IsMade (shapes.Linear relation) args k = (cs : List ℤ) × (xs : List Arg) × (bound : ℤ) × AreWeighted args cs xs bound × (k ≡ kinds.Linear (sum cs xs relation bound))
IsMade (shapes.LinearReified relation) args k =
    (cs : List ℤ) × (xs : List Arg) × (bound : ℤ) × (r : Arg) × AreWeightedGiving args cs xs bound r × (k ≡ kinds.LinearReified (record { sum = sum cs xs relation bound; output = r }))
IsMade (shapes.Compared c) args k = (x : Arg) × (y : Arg) × AreTwo args x y × (k ≡ kinds.Linear (difference c x y))
IsMade (shapes.ComparedReified c) args k = (x : Arg) × (y : Arg) × (r : Arg) × AreThree args x y r × (k ≡ kinds.LinearReified (record { sum = difference c x y; output = r }))
IsMade shapes.Negation args k = (a : Arg) × (b : Arg) × AreTwo args a b × (k ≡ kinds.Linear (opposites a b))
IsMade shapes.Conversion args k = (b : Arg) × (x : Arg) × AreTwo args b x × (k ≡ kinds.Linear (difference comparisons.Equal b x))
IsMade shapes.Sum args k = (x : Arg) × (y : Arg) × (z : Arg) × AreThree args x y z × (k ≡ kinds.Linear (addition x y z))
IsMade shapes.Clause args k = (ps : List Arg) × (ns : List Arg) × AreLists args ps ns × (k ≡ kinds.BoolClause (operands_of ps ns))
IsMade shapes.ClauseReified args k = (ps : List Arg) × (ns : List Arg) × (r : Arg) × AreListsGiving args ps ns r × (k ≡ kinds.BoolClauseReified (clause_truth_of ps ns r))
IsMade shapes.Conjunction args k = (ps : List Arg) × (r : Arg) × IsListGiving args ps r × (k ≡ kinds.And (conjunction_of ps r))
IsMade shapes.Disjunction args k = (ps : List Arg) × (r : Arg) × IsListGiving args ps r × (k ≡ kinds.Or (disjunction_of ps r))
IsMade shapes.And args k = (a : Arg) × (b : Arg) × (r : Arg) × AreThree args a b r × (k ≡ kinds.And (conjunction_of (a ∷ b ∷ []) r))
IsMade shapes.Or args k = (a : Arg) × (b : Arg) × (r : Arg) × AreThree args a b r × (k ≡ kinds.Or (disjunction_of (a ∷ b ∷ []) r))
IsMade shapes.Xor args k = (a : Arg) × (b : Arg) × (r : Arg) × AreThree args a b r × (k ≡ kinds.Xor (record { first = a; second = b; output = r }))
IsMade shape args k = ⊥
