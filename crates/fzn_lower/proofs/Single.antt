-- Each step finds one thing at most, and so items have one answer.
use Rattle.std.proofs.Common.{◌≡◌, ◌⊎◌, ℕ, zero, suc, ◌<◌, ◌≤◌, slice_get, List, Option, Some, None, Result, Ok, Err, inl, inr, refl, sym, ◌∙◌, ap, subst, arith}
use Rattle.dom_model.specs.Draft.{Draft}
use Rattle.dom_model.specs.Finished.{Finishes, HasOneOutcome}
use Rattle.dom_model.specs.Problem.{Problem}
use Rattle.dom_model.specs.declared.error.BuildError.{BuildError}
use Rattle.dom_model.specs.declared.error.BuildError.TheVariants as build
use Rattle.dom_limits.specs.declared.counted.Counted.{Counted}
use Rattle.dom_limits.specs.declared.counted.Counted.TheVariants.{Variables, Constraints, ArrayEntries, ArgumentEntries, Free}
use Rattle.fzn_limits.specs.Entries.{entries_of}
use Rattle.fzn_limits.specs.Sizes.{IsCounted, IsFirstTooMany}
use Rattle.fzn_limits.specs.Unlisted.{AreKnown, IsFirstUnknown}
use Rattle.fzn_check.specs.DeclarationFaults as declared
use Rattle.fzn_check.specs.Goals.{AimsAtFloatOrSet, IsSolveFault, IsSolveFine}
use Rattle.fzn_check.specs.declared.fault.Fault.{Fault}
use Rattle.fzn_check.specs.declared.fault.Fault.TheVariants as faults
use Rattle.fzn_lower.proofs.Chained.{one_behind}
use Rattle.fzn_lower.specs.Finding.{Step, FindsOne, ◌⟫◌}
use Rattle.fzn_lower.specs.Lowered.{HasBuildFault, HasOneAnswer, Lowers, answer_told}
use Rattle.fzn_lower.specs.Steps.{FindsSize, FindsName, FindsUnknown, FindsDeclaration, FindsConstraint, FindsSolve, FindsEntries, FindsFault}
use Rattle.fzn_lower.specs.declared.error.ModelError.{ModelError}
use Rattle.fzn_lower.specs.declared.error.ModelError.TheVariants.{TooMany, NameTwice, UnknownName, UnknownConstraint, WrongArguments, FloatOrSet, CyclicDefinition, EmptyDomain, Unbounded, DomainTooLarge, TooWide, NotBuilt, Memory}
use Rattle.fzn_model.specs.Drafts.{Drafts, DraftsOne}
use Rattle.fzn_symbols.specs.declared.error.NameError.{NameError}
use Rattle.fzn_symbols.specs.declared.error.NameError.TheVariants as names
use Rattle.fzn_symbols.specs.Scoped.{IsScoped}
use Rattle.fzn_check.specs.ConstraintFaults as posted
use Rattle.fzn_symbols.specs.Named.{names_of, AreDifferent}
use Rattle.fzn_syntax.specs.declared.constraint.Constraint.{Constraint}
use Rattle.fzn_syntax.specs.declared.declaration.Declaration.{Declaration}
use Rattle.fzn_syntax.specs.declared.items.Items.{Items}
use Rattle.fzn_signatures.specs.Table.{IsEntryOf, IsUnlisted}
use Rattle.fzn_totality.specs.Totality.{HasUnbuilt, UnbuiltLaw}

-- ---- a step by what it finds

-- a step finds nothing and then one fact holds, or a fault and then another
abbrev Looks : Step → Type 0 → (ModelError → Type 0) → Type 0
Looks F A B = (o : Option ModelError) → F o → ((o ≡ None) × A) ⊎ ((e : ModelError) × (o ≡ Some e) × B e)

looks_one : (F : Step) (A : Type 0) (B : ModelError → Type 0) → Looks F A B → ((e : ModelError) → A → B e → ⊥) → ((d e : ModelError) → B d → B e → d ≡ e) → FindsOne F
looks_one F A B look apart one found other h k =
    elim (look found h) [
      | inl a ↦ elim (look other k) [
        | inl b ↦ a.0 ∙ sym b.0
        | inr b ↦ absurd (apart b.0 a.1 b.2)
      ]
      | inr a ↦ elim (look other k) [
        | inl b ↦ absurd (apart a.0 b.1 a.2)
        | inr b ↦ a.1 ∙ ap Some (one a.0 b.0 a.2 b.2) ∙ sym b.1
      ]
    ]

some_none : {X : Type 0} {x : X} {o : Option X} → o ≡ Some x → o ≡ None → ⊥
some_none is none = absurd cc

some_one : {X : Type 0} {x y : X} {o : Option X} → o ≡ Some x → o ≡ Some y → x ≡ y
some_one is other = cc

-- ---- sizes

abbrev IsSizeError : Items → ModelError → Type 0
IsSizeError t e = (what : Counted) × (n : ℕ) × (e ≡ TooMany what n) × IsFirstTooMany t what n

size_looks : (t : Items) → Looks (FindsSize t) (IsCounted t (Ok tt)) (IsSizeError t)
size_looks t None h = inl (refl, h)
size_looks t (Some (TooMany what n)) h = inr (TooMany what n, refl, (what, n, refl, h))
size_looks t (Some _) h = absurd h

size_apart : (t : Items) (what : Counted) (n : ℕ) → IsCounted t (Ok tt) → IsFirstTooMany t what n → ⊥
size_apart t Variables n h k = absurd (omega (arith, h.0, k.0, k.1))
size_apart t Constraints n h k = absurd (omega (arith, h.1, k.1, k.2))
size_apart t ArrayEntries n h k = some_none k.2 h.2
size_apart t ArgumentEntries n h k = k
size_apart t Free n h k = k

size_one : (t : Items) (w v : Counted) (n m : ℕ) → IsFirstTooMany t w n → IsFirstTooMany t v m → TooMany w n ≡ TooMany v m
size_one t Variables Variables n m h k = ap (TooMany Variables) (h.0 ∙ sym k.0)
size_one t Variables Constraints n m h k = absurd (omega (arith, h.0, h.1, k.0))
size_one t Variables ArrayEntries n m h k = absurd (omega (arith, h.0, h.1, k.0))
size_one t Constraints Variables n m h k = absurd (omega (arith, k.0, k.1, h.0))
size_one t Constraints Constraints n m h k = ap (TooMany Constraints) (h.1 ∙ sym k.1)
size_one t Constraints ArrayEntries n m h k = absurd (omega (arith, h.1, h.2, k.1))
size_one t ArrayEntries Variables n m h k = absurd (omega (arith, k.0, k.1, h.0))
size_one t ArrayEntries Constraints n m h k = absurd (omega (arith, k.1, k.2, h.1))
size_one t ArrayEntries ArrayEntries n m h k = ap (TooMany ArrayEntries) (some_one h.2 k.2)
size_one t ArgumentEntries v n m h k = absurd h
size_one t Free v n m h k = absurd h
size_one t w ArgumentEntries n m h k = absurd k
size_one t w Free n m h k = absurd k

one_size : (t : Items) → FindsOne (FindsSize t)
one_size t = looks_one (FindsSize t) (IsCounted t (Ok tt)) (IsSizeError t) (size_looks t) (λ e a b. size_apart t b.0 b.1 a b.3)
    (λ d e b c. b.2 ∙ size_one t b.0 c.0 b.1 c.1 b.3 c.3 ∙ sym c.2)

-- ---- names

abbrev name_told : NameError → ModelError
name_told (names.NameTwice at) = NameTwice at
name_told (names.UnknownName at) = UnknownName at
name_told names.Memory = Memory

abbrev IsNameError : Items → ModelError → Type 0
IsNameError t e = (f : NameError) × (f ≡ names.Memory → ⊥) × (e ≡ name_told f) × IsScoped t (Err f)

twice_is_no_memory : (at : ℕ) → names.NameTwice at ≡ names.Memory → ⊥
twice_is_no_memory at e = absurd cc

unknown_is_no_memory : (at : ℕ) → names.UnknownName at ≡ names.Memory → ⊥
unknown_is_no_memory at e = absurd cc

name_looks : (t : Items) → Looks (FindsName t) (IsScoped t (Ok t.declarations)) (IsNameError t)
name_looks t None h = inl (refl, h)
name_looks t (Some (NameTwice at)) h = inr (NameTwice at, refl, (names.NameTwice at, twice_is_no_memory at, refl, h))
name_looks t (Some (UnknownName at)) h = inr (UnknownName at, refl, (names.UnknownName at, unknown_is_no_memory at, refl, h))
name_looks t (Some _) h = absurd h

abbrev ScopesOne : Type 0
ScopesOne = (t : Items) (r s : Result (List Declaration) NameError) → IsScoped t r → IsScoped t s → (r ≡ Err names.Memory → ⊥) → (s ≡ Err names.Memory → ⊥) → r ≡ s

ok_err : {X E : Type 0} {x : X} {e : E} → ◌≡◌ {A = Result X E} (Ok x) (Err e) → ⊥
ok_err e = absurd cc

err_one : {X E : Type 0} {d e : E} → ◌≡◌ {A = Result X E} (Err d) (Err e) → d ≡ e
err_one e = cc

one_name : (t : Items) → ScopesOne → FindsOne (FindsName t)
one_name t law = looks_one (FindsName t) (IsScoped t (Ok t.declarations)) (IsNameError t) (name_looks t)
    (λ e a b. ok_err (law t (Ok t.declarations) (Err b.0) a b.3 (λ m. ok_err m) (λ m. b.1 (err_one m))))
    (λ d e b c. b.2 ∙ ap name_told (err_one (law t (Err b.0) (Err c.0) b.3 c.3 (λ m. b.1 (err_one m)) (λ m. c.1 (err_one m)))) ∙ sym c.2)

-- ---- unknown constraints

abbrev IsUnknownError : Items → ModelError → Type 0
IsUnknownError t e = (at : ℕ) × (e ≡ UnknownConstraint at) × IsFirstUnknown t.constraints at

unknown_looks : (t : Items) → Looks (FindsUnknown t) (AreKnown t.constraints) (IsUnknownError t)
unknown_looks t None h = inl (refl, h)
unknown_looks t (Some (UnknownConstraint at)) h = inr (UnknownConstraint at, refl, (at, refl, h))
unknown_looks t (Some _) h = absurd h

below_or_same : (j k : ℕ) → (j < k) ⊎ ((k < j) ⊎ (j ≡ k))
below_or_same zero zero = inr (inr refl)
below_or_same zero (suc k) = inl (omega arith)
below_or_same (suc j) zero = inr (inl (omega arith))
below_or_same (suc j) (suc k) =
    elim (below_or_same j k) [
      | inl h ↦ inl (omega (arith, h))
      | inr g ↦ elim g [ inl h ↦ inr (inl (omega (arith, h))) | inr h ↦ inr (inr (ap suc h)) ]
    ]

unknown_one : (cs : List Constraint) (a b : ℕ) → IsFirstUnknown cs a → IsFirstUnknown cs b → a ≡ b
unknown_one cs a b (j, c, at_j, unlisted, is_a, before_j) (k, d, at_k, unknown, is_b, before_k) =
    elim (below_or_same j k) [
      | inl h ↦ (let known = before_k j c h at_j in absurd (unlisted known.0 known.1))
      | inr g ↦ elim g [
        | inl h ↦ (let known = before_j k d h at_k in absurd (unknown known.0 known.1))
        | inr same ↦ (
            let one : c ≡ d = some_one at_j (subst (λ i. slice_get cs i ≡ Some d) (sym same) at_k) in
            sym is_a ∙ ap (λ (x : Constraint). x.name.at) one ∙ is_b)
      ]
    ]

one_unknown : (t : Items) → FindsOne (FindsUnknown t)
one_unknown t = looks_one (FindsUnknown t) (AreKnown t.constraints) (IsUnknownError t) (unknown_looks t)
    (λ e a b. (let f = b.2 in let known = a f.0 f.1 f.2 in f.3 known.0 known.1))
    (λ d e b c. b.1 ∙ ap UnknownConstraint (unknown_one t.constraints b.0 c.0 b.2 c.2) ∙ sym c.1)

-- ---- declarations

abbrev item_told : Fault → ModelError
item_told (faults.IllTyped at) = WrongArguments at
item_told (faults.FloatOrSet at) = FloatOrSet at

abbrev IsDeclarationError : Items → ModelError → Type 0
IsDeclarationError t e = (f : Fault) × (e ≡ item_told f) × declared.IsFirstFault t.declarations f

declaration_looks : (t : Items) → Looks (FindsDeclaration t) (declared.IsFine t.declarations) (IsDeclarationError t)
declaration_looks t None h = inl (refl, h)
declaration_looks t (Some (WrongArguments at)) h = inr (WrongArguments at, refl, (faults.IllTyped at, refl, h))
declaration_looks t (Some (FloatOrSet at)) h = inr (FloatOrSet at, refl, (faults.FloatOrSet at, refl, h))
declaration_looks t (Some _) h = absurd h

one_declaration : (t : Items) → declared.HaveOneFirst → FindsOne (FindsDeclaration t)
one_declaration t law = looks_one (FindsDeclaration t) (declared.IsFine t.declarations) (IsDeclarationError t) (declaration_looks t)
    (λ e a b. a b.2.0 b.0 b.2.1)
    (λ d e b c. b.1 ∙ ap item_told (law t.declarations b.0 c.0 b.2 c.2) ∙ sym c.1)

-- ---- constraints

abbrev constraint_told : Fault → ModelError
constraint_told (faults.IllTyped at) = WrongArguments at
constraint_told (faults.FloatOrSet at) = FloatOrSet at

abbrev IsConstraintError : Items → ModelError → Type 0
IsConstraintError t e = (f : Fault) × (e ≡ constraint_told f) × posted.IsFirstFault t.declarations t.constraints f

constraint_looks : (t : Items) → Looks (FindsConstraint t) (posted.IsFine t.declarations t.constraints) (IsConstraintError t)
constraint_looks t None h = inl (refl, h)
constraint_looks t (Some (WrongArguments at)) h = inr (WrongArguments at, refl, (faults.IllTyped at, refl, h))
constraint_looks t (Some (FloatOrSet at)) h = inr (FloatOrSet at, refl, (faults.FloatOrSet at, refl, h))
constraint_looks t (Some _) h = absurd h

one_constraint : (t : Items) → posted.HaveOneFirst → FindsOne (FindsConstraint t)
one_constraint t law = looks_one (FindsConstraint t) (posted.IsFine t.declarations t.constraints) (IsConstraintError t) (constraint_looks t)
    (λ e a b. a b.2.0 b.0 b.2.1)
    (λ d e b c. b.1 ∙ ap constraint_told (law t.declarations t.constraints b.0 c.0 b.2 c.2) ∙ sym c.1)

-- ---- the goal

abbrev IsGoalError : Items → ModelError → Type 0
IsGoalError t e = (f : Fault) × (e ≡ item_told f) × IsSolveFault t.declarations t.solve f

goal_looks : (t : Items) → Looks (FindsSolve t) (IsSolveFine t.declarations t.solve) (IsGoalError t)
goal_looks t None h = inl (refl, h)
goal_looks t (Some (WrongArguments at)) h = inr (WrongArguments at, refl, (faults.IllTyped at, refl, h))
goal_looks t (Some (FloatOrSet at)) h = inr (FloatOrSet at, refl, (faults.FloatOrSet at, refl, h))
goal_looks t (Some _) h = absurd h

goal_one : (t : Items) (f g : Fault) → IsSolveFault t.declarations t.solve f → IsSolveFault t.declarations t.solve g → f ≡ g
goal_one t (faults.IllTyped a) (faults.IllTyped b) h k = ap faults.IllTyped (h.2 ∙ sym k.2)
goal_one t (faults.IllTyped a) (faults.FloatOrSet b) h k = absurd (h.0 k.0)
goal_one t (faults.FloatOrSet a) (faults.IllTyped b) h k = absurd (k.0 h.0)
goal_one t (faults.FloatOrSet a) (faults.FloatOrSet b) h k = ap faults.FloatOrSet (h.1 ∙ sym k.1)

one_goal : (t : Items) → FindsOne (FindsSolve t)
one_goal t = looks_one (FindsSolve t) (IsSolveFine t.declarations t.solve) (IsGoalError t) (goal_looks t)
    (λ e a b. a b.0 b.2)
    (λ d e b c. b.1 ∙ ap item_told (goal_one t b.0 c.0 b.2 c.2) ∙ sym c.1)

-- ---- entries

abbrev IsEntriesError : Items → ModelError → Type 0
IsEntriesError t e = (what : Counted) × (n : ℕ) × (e ≡ TooMany what n) × (what ≡ ArgumentEntries) × (n ≡ entries_of t.declarations t.constraints) × (2000000 < n)

entries_looks : (t : Items) → Looks (FindsEntries t) (entries_of t.declarations t.constraints ≤ 2000000) (IsEntriesError t)
entries_looks t None h = inl (refl, h)
entries_looks t (Some (TooMany what n)) h = inr (TooMany what n, refl, (what, n, refl, h.0, h.1, h.2))
entries_looks t (Some _) h = absurd h

entries_apart : (k n : ℕ) → k ≤ 2000000 → n ≡ k → 2000000 < n → ⊥
entries_apart k n h is lt = absurd (omega (arith, h, is, lt))

one_entries : (t : Items) → FindsOne (FindsEntries t)
one_entries t = looks_one (FindsEntries t) (entries_of t.declarations t.constraints ≤ 2000000) (IsEntriesError t) (entries_looks t)
    (λ e a b. entries_apart (entries_of t.declarations t.constraints) b.1 a b.4 b.5)
    (λ d e b c. b.2 ∙ ap (λ w. TooMany w b.1) (b.3 ∙ sym c.3) ∙ ap (TooMany c.0) (b.4 ∙ sym c.4) ∙ sym c.2)

-- ---- all of them

module _ (scopes : ScopesOne) (declarations : declared.HaveOneFirst) (posts : posted.HaveOneFirst) where
  one_fault : (t : Items) → FindsOne (FindsFault t)
  one_fault t =
      one_behind (FindsSize t) (FindsName t ⟫ FindsUnknown t ⟫ FindsDeclaration t ⟫ FindsConstraint t ⟫ FindsSolve t ⟫ FindsEntries t) (one_size t)
      (one_behind (FindsName t) (FindsUnknown t ⟫ FindsDeclaration t ⟫ FindsConstraint t ⟫ FindsSolve t ⟫ FindsEntries t) (one_name t scopes)
      (one_behind (FindsUnknown t) (FindsDeclaration t ⟫ FindsConstraint t ⟫ FindsSolve t ⟫ FindsEntries t) (one_unknown t)
      (one_behind (FindsDeclaration t) (FindsConstraint t ⟫ FindsSolve t ⟫ FindsEntries t) (one_declaration t declarations)
      (one_behind (FindsConstraint t) (FindsSolve t ⟫ FindsEntries t) (one_constraint t posts)
      (one_behind (FindsSolve t) (FindsEntries t) (one_goal t) (one_entries t))))))

  -- the answer is that over what the items are put together as
  abbrev Ended : Items → Result Problem ModelError → Type 0
  Ended t r = (d : Draft) × (q : Result Problem BuildError) × Drafts t d × Finishes d q × (q ≡ Err build.Memory → ⊥) × (r ≡ answer_told q)

  -- an answer but for want of memory: that over what the items are put together as, that a constraint isn't built, or a fault
  abbrev Sorts : Items → Result Problem ModelError → Type 0
  Sorts t r =
      (FindsFault t None × Ended t r)
      ⊎ (((r ≡ Err NotBuilt) × FindsFault t None × HasUnbuilt t.constraints) ⊎ ((e : ModelError) × (r ≡ Err e) × FindsFault t (Some e)))

  model_is_no_memory : (p : Problem) → ◌≡◌ {A = Result Problem BuildError} (Ok p) (Err build.Memory) → ⊥
  model_is_no_memory p e = absurd cc

  fault_is_no_memory : (e : BuildError) → (e ≡ build.Memory → ⊥) → ◌≡◌ {A = Result Problem BuildError} (Err e) (Err build.Memory) → ⊥
  fault_is_no_memory e other is = other (err_one is)

  sorted : (t : Items) (r : Result Problem ModelError) → Lowers (FindsFault t) t r → (r ≡ Err Memory → ⊥) → Sorts t r
  sorted t (Ok p) h m = inl (h.0, (h.1.draft, Ok p, h.1.put, h.1.finished, model_is_no_memory p, refl))
  sorted t (Err NotBuilt) h m = inr (inl (refl, h.0, h.1))
  sorted t (Err Memory) h m = absurd (m refl)
  sorted t (Err (TooMany what n)) (inl h) m = inr (inr (TooMany what n, refl, h))
  sorted t (Err (TooMany what n)) (inr h) m = inl (h.0, (h.1.draft, Err (build.TooMany what n), h.1.put, h.1.fault, fault_is_no_memory (build.TooMany what n) (λ e. absurd cc), refl))
  sorted t (Err (NameTwice at)) h m = inr (inr (NameTwice at, refl, h))
  sorted t (Err (UnknownName at)) h m = inr (inr (UnknownName at, refl, h))
  sorted t (Err (UnknownConstraint at)) h m = inr (inr (UnknownConstraint at, refl, h))
  sorted t (Err (WrongArguments at)) h m = inr (inr (WrongArguments at, refl, h))
  sorted t (Err (FloatOrSet at)) h m = inr (inr (FloatOrSet at, refl, h))
  sorted t (Err (CyclicDefinition x)) h m = inl (h.0, (h.1.draft, Err (build.CyclicDefinition x), h.1.put, h.1.fault, fault_is_no_memory (build.CyclicDefinition x) (λ e. absurd cc), refl))
  sorted t (Err (EmptyDomain x)) h m = inl (h.0, (h.1.draft, Err (build.EmptyDomain x), h.1.put, h.1.fault, fault_is_no_memory (build.EmptyDomain x) (λ e. absurd cc), refl))
  sorted t (Err (Unbounded x)) h m = inl (h.0, (h.1.draft, Err (build.Unbounded x), h.1.put, h.1.fault, fault_is_no_memory (build.Unbounded x) (λ e. absurd cc), refl))
  sorted t (Err (DomainTooLarge x n)) h m = inl (h.0, (h.1.draft, Err (build.DomainTooLarge x n), h.1.put, h.1.fault, fault_is_no_memory (build.DomainTooLarge x n) (λ e. absurd cc), refl))
  sorted t (Err (TooWide c)) h m = inl (h.0, (h.1.draft, Err (build.TooWide c), h.1.put, h.1.fault, fault_is_no_memory (build.TooWide c) (λ e. absurd cc), refl))

  fault_none : (t : Items) (e : ModelError) → FindsFault t None → FindsFault t (Some e) → ⊥
  fault_none t e h k = some_none refl (one_fault t (Some e) None k h)

  different : (t : Items) → FindsFault t None → AreDifferent (names_of t.declarations)
  different t h = h.1.0.1

  one_ended : DraftsOne → HasOneOutcome → (t : Items) (r s : Result Problem ModelError) → FindsFault t None → Ended t r → Ended t s → r ≡ s
  one_ended drafts outcomes t r s fine a b =
      let same : a.0 ≡ b.0 = drafts t a.0 b.0 (different t fine) a.2 b.2 in
      let again : Finishes b.0 a.1 = subst (λ (d : Draft). Finishes d a.1) same a.3 in
      a.5 ∙ ap answer_told (outcomes b.0 a.1 b.1 again b.3 a.4 b.4) ∙ sym b.5

  pub one_answer : DraftsOne → UnbuiltLaw → HasOneOutcome → HasOneAnswer
  one_answer drafts unbuilt outcomes t one other h k m n =
      elim (sorted t one h m) [
        | inl a ↦ elim (sorted t other k n) [
          | inl b ↦ one_ended drafts outcomes t one other a.0 a.1 b.1
          | inr g ↦ elim g [
            | inl b ↦ absurd (unbuilt t b.2 a.1.0 a.1.2)
            | inr b ↦ absurd (fault_none t b.0 a.0 b.2)
          ]
        ]
        | inr f ↦ elim f [
          | inl a ↦ elim (sorted t other k n) [
            | inl b ↦ absurd (unbuilt t a.2 b.1.0 b.1.2)
            | inr g ↦ elim g [
              | inl b ↦ a.0 ∙ sym b.0
              | inr b ↦ absurd (fault_none t b.0 a.1 b.2)
            ]
          ]
          | inr a ↦ elim (sorted t other k n) [
            | inl b ↦ absurd (fault_none t a.0 b.0 a.2)
            | inr g ↦ elim g [
              | inl b ↦ absurd (fault_none t a.0 b.1 a.2)
              | inr b ↦ a.1 ∙ ap Err (some_one refl (one_fault t (Some a.0) (Some b.0) a.2 b.2)) ∙ sym b.1
            ]
          ]
        ]
      ]
