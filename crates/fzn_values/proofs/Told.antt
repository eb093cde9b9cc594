-- What calls tell of literals, of truth values, of integers and of lists.
use Rattle.std.proofs.Common.{◌≡◌, ℕ, zero, suc, ◌+◌, ℤ, Bool, true, false, List, [], ◌∷◌, ◌++◌, take, length, get_or, slice_get, ◌<◌, Option, None, Some, Result, Ok, Err, IfOk, IfSome, MatchOption, Bor, refl, sym, ◌∙◌, ap, subst, arith}
use Rattle.std.specs.Option.{option_copied}
use Rattle.std.proofs.lemmas.Option.{slice_get_read, same_Some}
use Rattle.chains.specs.declared.link.Link.TheVariants as places
use Rattle.fzn_syntax.specs.declared.declaration.Declaration.{Declaration}
use Rattle.fzn_syntax.specs.declared.expression.Basic.{Basic}
use Rattle.fzn_syntax.specs.declared.expression.Expression.{Expression}
use Rattle.fzn_syntax.specs.declared.expression.Expression.TheVariants as expressions
use Rattle.fzn_symbols.specs.Named.{names_of, AreDifferent, IsNamed, IsPlaced, IsUndeclared}
use Rattle.fzn_values.specs.declared.entry.Entry.{Entry}
use Rattle.fzn_values.specs.declared.entry.Entry.TheVariants.{Constant, Variable}
use Rattle.fzn_values.specs.declared.literal.LiteralKind.{LiteralKind}
use Rattle.fzn_values.specs.declared.literal.LiteralKind.TheVariants as literals
use Rattle.fzn_values.specs.Literals.{is_truth, is_number, is_literal, name_in, named_by, value_for, StandsFor, itself}
use Rattle.fzn_values.specs.Links.{IsValueLink, IsLiteralOf, NameStandsFor, NamesListAt}
use Rattle.fzn_values.specs.Constants.{truth, number, IsTruthOf, IsIntOf, IsListOf, IsListAt, AreInts, AreIntsOf, IsIntegerVariable, NamesVariableAt, IsVariableOf, IsEntryOf}
use Rattle.fzn_values.proofs.Named.{one_place, end_stands, stands_literal, written, by_name, of_name, one_literal}

pub copied_some : {X : Type 0} (r : Option (Bor X)) (N : Type 0) (P : X → Type 0) (x : X) → option_copied r ≡ Some x → P x → MatchOption r N (λ y. P y.now)
copied_some None N P x e p = absurd cc
copied_some (Some y) N P x e p = subst P (sym (same_Some y.now x e)) p

module _ (ds : List Declaration) (literal : LiteralKind) (n : List ℕ) (place : ℕ) (d : Declaration) (at : slice_get ds place ≡ Some d) (named : IsNamed ds n d) where
  pub name_has_none : AreDifferent (names_of ds) → IsLiteralOf ds literal d None → (l : Expression) → NameStandsFor ds literal n l → ⊥
  name_has_none different none l h =
      let same : h.2.0 ≡ named.0 = one_place ds n h.2.0 named.0 h.0 d different h.2.1 h.2.2 named.1 named.2 in
      let there : slice_get ds named.0 ≡ Some h.0 = subst (λ k. slice_get ds k ≡ Some h.0) same h.2.1 in
      let one : h.0 ≡ d = same_Some h.0 d (sym there ∙ named.1) in
      none h.1 l (ap (value_for literal) (sym one) ∙ h.3) h.4

  pub name_has_some : (e : ℕ) (f : Declaration) (r : Option (Bor Expression)) (N : Type 0) → IsLiteralOf ds literal d (Some e) → slice_get ds e ≡ Some f → option_copied r ≡ value_for literal f
      → MatchOption r N (λ l. NameStandsFor ds literal n l.now)
  name_has_some e f r N ends there told =
      let h = end_stands ds literal d e ends in
      let same : h.2 ≡ f = same_Some h.2 f (sym h.5 ∙ there) in
      copied_some r N (NameStandsFor ds literal n) h.1 (told ∙ ap (value_for literal) (sym same) ∙ h.6) (d, h.0, named, h.3, h.4)

-- a name's end is the place of the list that the name stands for
pub list_place : (ds : List Declaration) (n : List ℕ) (place : ℕ) → AreDifferent (names_of ds) → IsPlaced ds n place → (r : Option ℕ)
    → ((d : Declaration) → slice_get ds place ≡ Some d → IsLiteralOf ds literals.List d r) → MatchOption r ((l : Expression) → NameStandsFor ds literals.List n l → ⊥) (NamesListAt ds n)
list_place ds n place different p None h = name_has_none ds literals.List n place p.0 p.1 (place, p.1, p.2) different (h p.0 p.1)
list_place ds n place different p (Some e) h = (p.0, (place, p.1, p.2), h p.0 p.1)

-- what calls tell of an expression that may stand for literals of this shape
module _ {X Y : Type 0} (shape : X → Expression) (seen : Y → X) (ds : List Declaration) (literal : LiteralKind) (e : Expression) where
  abbrev Tells : Option Y → Type 0
  Tells r = MatchOption r ((x : X) → StandsFor ds literal e (shape x) → ⊥) (λ y. StandsFor ds literal e (shape (seen y)))

  pub as_written : ((x : X) → is_literal literal (shape x) ≡ true) → named_by e ≡ None → (r : Option Y) → MatchOption r (is_literal literal e ≡ false) (λ y. e ≡ shape (seen y)) → Tells r
  as_written literals none None not = λ x s. let w = (written ds literal e (shape x) none s).0 in absurd cc
  as_written literals none (Some y) is = subst (λ l. StandsFor ds literal l (shape (seen y))) (sym is) (itself (literals (seen y)) refl)

  pub as_named : (n : List ℕ) (l : Expression) → named_by e ≡ Some n → NameStandsFor ds literal n l → (r : Option Y) → MatchOption r (is_literal literal l ≡ false) (λ y. l ≡ shape (seen y)) → Tells r
  as_named n l is s None not = let w = stands_literal ds literal s.1 l s.4 in absurd cc
  as_named n l is s (Some y) same = subst (λ x. StandsFor ds literal e x) same (of_name ds literal e l n is s)

  pub as_unnamed : (n : List ℕ) → named_by e ≡ Some n → ((l : Expression) → NameStandsFor ds literal n l → ⊥) → Tells None
  as_unnamed n is none x s = none (shape x) (by_name ds literal e (shape x) n is s)

in_basic : {X : Type 0} (shape : X → Basic) (b : Basic) (N : Type 0) (r : Option X) → MatchOption r N (λ x. b ≡ shape x) → MatchOption r N (λ x. expressions.Basic b ≡ expressions.Basic (shape x))
in_basic shape b N None h = h
in_basic shape b N (Some x) same = ap expressions.Basic same

truth_is_literal : (t : Bool) → is_literal literals.Boolean (expressions.Basic (truth t)) ≡ true
truth_is_literal true = refl
truth_is_literal false = refl

module _ (ds : List Declaration) (b : Basic) where
  pub truth_written : (r : Option Bool) → name_in b ≡ None → MatchOption r (is_truth b ≡ false) (λ t. b ≡ truth t) → MatchOption r ((t : Bool) → IsTruthOf ds b t → ⊥) (IsTruthOf ds b)
  truth_written r none h = as_written (λ t. expressions.Basic (truth t)) (λ t. t) ds literals.Boolean (expressions.Basic b) truth_is_literal none r (in_basic truth b (is_truth b ≡ false) r h)

  pub truth_named : (r : Option Bool) (n : List ℕ) (l : Expression) → name_in b ≡ Some n → NameStandsFor ds literals.Boolean n l
      → MatchOption r (is_literal literals.Boolean l ≡ false) (λ t. l ≡ expressions.Basic (truth t)) → MatchOption r ((t : Bool) → IsTruthOf ds b t → ⊥) (IsTruthOf ds b)
  truth_named r n l is s h = as_named (λ t. expressions.Basic (truth t)) (λ t. t) ds literals.Boolean (expressions.Basic b) n l is s r h

  pub truth_unnamed : (n : List ℕ) → name_in b ≡ Some n → ((l : Expression) → NameStandsFor ds literals.Boolean n l → ⊥) → (t : Bool) → IsTruthOf ds b t → ⊥
  truth_unnamed n is none = as_unnamed (λ t. expressions.Basic (truth t)) (λ t. t) ds literals.Boolean (expressions.Basic b) n is none

  pub int_written : (r : Option ℤ) → name_in b ≡ None → MatchOption r (is_number b ≡ false) (λ z. b ≡ number z) → MatchOption r ((z : ℤ) → IsIntOf ds b z → ⊥) (IsIntOf ds b)
  int_written r none h = as_written (λ z. expressions.Basic (number z)) (λ z. z) ds literals.Integer (expressions.Basic b) (λ z. refl) none r (in_basic number b (is_number b ≡ false) r h)

  pub int_named : (r : Option ℤ) (n : List ℕ) (l : Expression) → name_in b ≡ Some n → NameStandsFor ds literals.Integer n l
      → MatchOption r (is_literal literals.Integer l ≡ false) (λ z. l ≡ expressions.Basic (number z)) → MatchOption r ((z : ℤ) → IsIntOf ds b z → ⊥) (IsIntOf ds b)
  int_named r n l is s h = as_named (λ z. expressions.Basic (number z)) (λ z. z) ds literals.Integer (expressions.Basic b) n l is s r h

  pub int_unnamed : (n : List ℕ) → name_in b ≡ Some n → ((l : Expression) → NameStandsFor ds literals.Integer n l → ⊥) → (z : ℤ) → IsIntOf ds b z → ⊥
  int_unnamed n is none = as_unnamed (λ z. expressions.Basic (number z)) (λ z. z) ds literals.Integer (expressions.Basic b) n is none

module _ (ds : List Declaration) (e : Expression) where
  pub list_written : (r : Option (Bor (List Basic))) → named_by e ≡ None → MatchOption r (is_literal literals.List e ≡ false) (λ bs. e ≡ expressions.List bs.now)
      → MatchOption r ((bs : List Basic) → IsListOf ds e bs → ⊥) (λ bs. IsListOf ds e bs.now)
  list_written r none h = as_written (λ bs. expressions.List bs) (λ (bs : Bor (List Basic)). bs.now) ds literals.List e (λ bs. refl) none r h

  pub list_named : (r : Option (Bor (List Basic))) (n : List ℕ) (l : Expression) → named_by e ≡ Some n → NameStandsFor ds literals.List n l
      → MatchOption r (is_literal literals.List l ≡ false) (λ bs. l ≡ expressions.List bs.now) → MatchOption r ((bs : List Basic) → IsListOf ds e bs → ⊥) (λ bs. IsListOf ds e bs.now)
  list_named r n l is s h = as_named (λ bs. expressions.List bs) (λ (bs : Bor (List Basic)). bs.now) ds literals.List e n l is s r h

  pub list_unnamed : (n : List ℕ) → named_by e ≡ Some n → ((l : Expression) → NameStandsFor ds literals.List n l → ⊥) → (bs : List Basic) → IsListOf ds e bs → ⊥
  list_unnamed n is none = as_unnamed (λ bs. expressions.List bs) (λ (bs : Bor (List Basic)). bs.now) ds literals.List e n is none

pub one_list : (ds : List Declaration) (e : Expression) (bs cs : List Basic) → AreDifferent (names_of ds) → IsListOf ds e bs → IsListOf ds e cs → bs ≡ cs
one_list ds e bs cs different h g =
    let l : expressions.List bs ≡ expressions.List cs = one_literal ds literals.List different e (expressions.List bs) (expressions.List cs) h g in cc

pub no_list_at : (ds : List Declaration) (e : Expression) → named_by e ≡ None → (k : ℕ) → IsListAt ds e k → ⊥
no_list_at ds e none k h = let named = h.1 in absurd cc

-- what a name stands for whose chain ends at a list
name_stands : (ds : List Declaration) (n : List ℕ) (k : ℕ) → NamesListAt ds n k → (l : Expression) × NameStandsFor ds literals.List n l
name_stands ds n k h = let r = end_stands ds literals.List h.0 k h.2 in (r.1, (h.0, r.0, h.1, r.3, r.4))

pub list_at : (ds : List Declaration) (e : Expression) (n : List ℕ) → named_by e ≡ Some n → (r : Option ℕ) → MatchOption r ((l : Expression) → NameStandsFor ds literals.List n l → ⊥) (NamesListAt ds n)
    → MatchOption r ((k : ℕ) → IsListAt ds e k → ⊥) (IsListAt ds e)
list_at ds e n is None none = λ k h.
    let s = name_stands ds h.0 k h.2 in
    none s.0 (subst (λ m. NameStandsFor ds literals.List m s.0) (same_Some h.0 n (sym h.1 ∙ is)) s.1)
list_at ds e n is (Some k) h = (n, is, h)

pub one_list_at : (ds : List Declaration) (e : Expression) → AreDifferent (names_of ds) → (r : Option ℕ) → IfSome r (λ k. (bs cs : List Basic) → IsListOf ds e bs → IsListOf ds e cs → cs ≡ bs)
one_list_at ds e different None = tt
one_list_at ds e different (Some k) = λ bs cs h g. one_list ds e cs bs different g h

truth_is_one : (t u : Bool) → truth t ≡ truth u → t ≡ u
truth_is_one true true same = refl
truth_is_one true false same = absurd cc
truth_is_one false true same = absurd cc
truth_is_one false false same = refl

basic_is_one : (a b : Basic) → expressions.Basic a ≡ expressions.Basic b → a ≡ b
basic_is_one a b same = cc

pub one_truth : (ds : List Declaration) (b : Basic) (t u : Bool) → AreDifferent (names_of ds) → IsTruthOf ds b t → IsTruthOf ds b u → t ≡ u
one_truth ds b t u different h g =
    truth_is_one t u (basic_is_one (truth t) (truth u) (one_literal ds literals.Boolean different (expressions.Basic b) (expressions.Basic (truth t)) (expressions.Basic (truth u)) h g))

pub truth_only : (ds : List Declaration) (b : Basic) → AreDifferent (names_of ds) → (r : Option Bool) → MatchOption r ((t : Bool) → IsTruthOf ds b t → ⊥) (IsTruthOf ds b)
    → IfSome r (λ t. (u : Bool) → IsTruthOf ds b u → u ≡ t)
truth_only ds b different None h = tt
truth_only ds b different (Some t) h = λ u g. one_truth ds b u t different g h

pub one_integer : (ds : List Declaration) (b : Basic) (y z : ℤ) → AreDifferent (names_of ds) → IsIntOf ds b y → IsIntOf ds b z → y ≡ z
one_integer ds b y z different h g =
    let l : expressions.Basic (number y) ≡ expressions.Basic (number z) = one_literal ds literals.Integer different (expressions.Basic b) (expressions.Basic (number y)) (expressions.Basic (number z)) h g in cc

pub leads_nowhere : (ds : List Declaration) (literal : LiteralKind) (v : Expression) (m : List ℕ) → is_literal literal v ≡ false → Some m ≡ named_by v → IsUndeclared ds m → IsValueLink ds literal v places.Nothing
leads_nowhere ds literal v m is named none = (is, λ n e. subst (λ x. IsUndeclared ds x) (same_Some m n (named ∙ e)) none)

pub no_name : (ds : List Declaration) (literal : LiteralKind) (n : List ℕ) → IsUndeclared ds n → (l : Expression) → NameStandsFor ds literal n l → ⊥
no_name ds literal n none l h = none h.0 h.2

-- ---- integer variables

pub no_variable : (ds : List Declaration) (n : List ℕ) → IsUndeclared ds n → (k : ℕ) → NamesVariableAt ds n k → ⊥
no_variable ds n none k h = none h.0.0 (k, h.0.1, h.0.2)

pub other_variable : (ds : List Declaration) (n : List ℕ) (place : ℕ) → AreDifferent (names_of ds) → IsPlaced ds n place → (IsIntegerVariable ds place → ⊥) → (k : ℕ) → NamesVariableAt ds n k → ⊥
other_variable ds n place different placed not k h =
    let same : k ≡ place = one_place ds n k place h.0.0 placed.0 different h.0.1 h.0.2 placed.1 placed.2 in
    not (subst (λ i. IsIntegerVariable ds i) same h.1)

-- an expression that is a name is told by the name
pub variable_by_name : (ds : List Declaration) (b : Basic) (n : List ℕ) (r : Option ℕ) → Some n ≡ name_in b → MatchOption r ((k : ℕ) → NamesVariableAt ds n k → ⊥) (NamesVariableAt ds n)
    → MatchOption r ((k : ℕ) → IsVariableOf ds b k → ⊥) (IsVariableOf ds b)
variable_by_name ds b n None is none = λ k h. none k (subst (λ m. NamesVariableAt ds m k) (sym (same_Some n h.0 (is ∙ h.1))) h.2)
variable_by_name ds b n (Some k) is h = (n, sym is, h)

-- ---- integers one by one

pub no_ints : (ds : List Declaration) (bs : List Basic) (i : ℕ) (b : Basic) → slice_get bs i ≡ Some b → ((z : ℤ) → IsIntOf ds b z → ⊥) → (zs : List ℤ) → AreInts ds bs zs → ⊥
no_ints ds [] i b at none zs h = absurd cc
no_ints ds (c ∷ bs) zero b at none [] h = absurd h
no_ints ds (c ∷ bs) zero b at none (z ∷ zs) h = none z (subst (λ x. IsIntOf ds x z) (same_Some c b at) h.0)
no_ints ds (c ∷ bs) (suc i) b at none [] h = absurd h
no_ints ds (c ∷ bs) (suc i) b at none (z ∷ zs) h = no_ints ds bs i b at none zs h.1

pub ints_more : (ds : List Declaration) (bs : List Basic) (zs : List ℤ) (i : ℕ) (b : Basic) (z : ℤ) → slice_get bs i ≡ Some b → AreInts ds (take i bs) zs → IsIntOf ds b z → AreInts ds (take (i + 1) bs) (zs ++ z ∷ [])
ints_more ds bs zs i b z at h is = let e : i + 1 ≡ suc i = omega arith in rw e (go bs zs i at h)
  where
    go : (cs : List Basic) (ys : List ℤ) (k : ℕ) → slice_get cs k ≡ Some b → AreInts ds (take k cs) ys → AreInts ds (take (suc k) cs) (ys ++ z ∷ [])
    go [] ys k there g = absurd cc
    go (c ∷ cs) [] zero there g = (subst (λ x. IsIntOf ds x z) (sym (same_Some c b there)) is, tt)
    go (c ∷ cs) (y ∷ ys) zero there g = absurd g
    go (c ∷ cs) [] (suc k) there g = absurd g
    go (c ∷ cs) (y ∷ ys) (suc k) there g = (g.0, go cs ys k there g.1)

pub one_ints : (ds : List Declaration) (bs : List Basic) (ys zs : List ℤ) → AreDifferent (names_of ds) → AreInts ds bs ys → AreInts ds bs zs → ys ≡ zs
one_ints ds [] [] [] different h g = refl
one_ints ds [] [] (z ∷ zs) different h g = absurd g
one_ints ds [] (y ∷ ys) zs different h g = absurd h
one_ints ds (b ∷ bs) [] zs different h g = absurd h
one_ints ds (b ∷ bs) (y ∷ ys) [] different h g = absurd g
one_ints ds (b ∷ bs) (y ∷ ys) (z ∷ zs) different h g =
    let first : y ≡ z = one_integer ds b y z different h.0 g.0 in
    let others : ys ≡ zs = one_ints ds bs ys zs different h.1 g.1 in
    cc

pub one_ints_of : (ds : List Declaration) (e : Expression) (ys zs : List ℤ) → AreDifferent (names_of ds) → AreIntsOf ds e ys → AreIntsOf ds e zs → ys ≡ zs
one_ints_of ds e ys zs different h g =
    one_ints ds h.0 ys zs different h.2 (subst (λ x. AreInts ds x zs) (one_list ds e g.0 h.0 different g.1 h.1) g.2)

pub no_ints_of : (ds : List Declaration) (e : Expression) (bs : List Basic) → AreDifferent (names_of ds) → IsListOf ds e bs → ((zs : List ℤ) → AreInts ds bs zs → ⊥) → (zs : List ℤ) → AreIntsOf ds e zs → ⊥
no_ints_of ds e bs different is none zs h = none zs (subst (λ x. AreInts ds x zs) (one_list ds e h.0 bs different h.1 is) h.2)

pub no_entry : (ds : List Declaration) (b : Basic) → ((z : ℤ) → IsIntOf ds b z → ⊥) → ((k : ℕ) → IsVariableOf ds b k → ⊥) → (e : Entry) → IsEntryOf ds b e → ⊥
no_entry ds b none not (Constant z) h = none z h
no_entry ds b none not (Variable k) h = not k h

pub basic_at : (bs : List Basic) (i : ℕ) (b : Basic) → i < length bs → b ≡ get_or bs i b → slice_get bs i ≡ Some b
basic_at bs i b lt is = slice_get_read bs (length bs) i b refl lt is

module _ {V E : Type 0} (items : V → List ℤ) (ds : List Declaration) (e : Expression) (bs : List Basic) (different : AreDifferent (names_of ds)) (is : IsListOf ds e bs) where
  pub ints_are : (r : Result (Option V) E) → IfOk r (λ o. MatchOption o ((zs : List ℤ) → AreInts ds bs zs → ⊥) (λ v. AreInts ds bs (items v)))
      → IfOk r (λ o. MatchOption o ((zs : List ℤ) → AreIntsOf ds e zs → ⊥) (λ v. AreIntsOf ds e (items v)))
  ints_are (Err x) h = tt
  ints_are (Ok None) h = no_ints_of ds e bs different is h
  ints_are (Ok (Some v)) h = (bs, is, h)

  pub ints_only : (r : Result (Option V) E) → IfOk r (λ o. MatchOption o ((zs : List ℤ) → AreInts ds bs zs → ⊥) (λ v. AreInts ds bs (items v)))
      → IfOk r (λ o. IfSome o (λ v. (zs : List ℤ) → AreIntsOf ds e zs → zs ≡ items v))
  ints_only (Err x) h = tt
  ints_only (Ok None) h = tt
  ints_only (Ok (Some v)) h = λ zs g. one_ints_of ds e zs (items v) different g (bs, is, h)
