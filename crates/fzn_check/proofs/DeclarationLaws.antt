-- The first declaration at fault.
use Rattle.std.proofs.Common.{◌≡◌, ◌↔◌, ℕ, zero, suc, ◌<◌, ◌≤◌, Bool, true, List, [], ◌∷◌, length, get_or, map, slice_get, Option, None, Some, MatchOption, IsTrue, refl, sym, ap, ◌∙◌, subst, arith, inl, inr}
use Rattle.std.proofs.lemmas.Option.{slice_get_within, slice_get-get_or, same_Some}
use Rattle.fzn_syntax.specs.declared.declaration.Declaration.{Declaration}
use Rattle.fzn_symbols.specs.Named.{identifier_of}
use Rattle.fzn_check.specs.declared.fault.Fault.{Fault}
use Rattle.fzn_check.specs.declared.fault.Fault.TheVariants.{FloatOrSet, IllTyped}
use Rattle.fzn_check.specs.Declares.{DeclaresFloatOrSet}
use Rattle.fzn_check.specs.Places.{graph_of}
use Rattle.fzn_check.specs.DeclarationFaults.{is_constant, DependsOnItself, FindsFirstCyclic, IsFaultIf, IsFaultAt, IsFineAt, IsFine, IsFirstFault, HaveOneFirst}

-- what asks whether a declaration depends on itself may be asked otherwise
same_fault : (P Q : Type 0) (ds : List Declaration) (d : Declaration) (f : Fault) → (P → Q) → IsFaultIf P ds d f → IsFaultIf Q ds d f
same_fault P Q ds d (FloatOrSet at) to h = h
same_fault P Q ds d (IllTyped at) to h = (h.0, elim h.1 [ inl wrong ↦ inl wrong | inr depends ↦ inr (to depends) ], h.2)

there : (ds : List Declaration) (k : ℕ) (b : Bool) → slice_get (map is_constant ds) k ≡ Some b → (d : Declaration) × (slice_get ds k ≡ Some d)
there [] k b e = absurd cc
there (d ∷ ds) zero b e = (d, refl)
there (d ∷ ds) (suc k) b e = there ds k b e

-- what depends on itself is at fault
dependent_is_faulty : (ds : List Declaration) (k : ℕ) → DependsOnItself ds k → IsFineAt ds k → ⊥
dependent_is_faulty ds k depends fine =
    let found = there ds k true depends.0 in
    let plain : DeclaresFloatOrSet ds found.0 → ⊥ = λ h. fine (FloatOrSet (identifier_of found.0).at) (found.0, found.1, (h, refl)) in
    fine (IllTyped (identifier_of found.0).at) (found.0, found.1, (plain, inr depends, refl))

-- behind declarations without fault, the first that depends on itself is the one that does
depends_first : (ds : List Declaration) (first : Option ℕ) (k : ℕ) → FindsFirstCyclic ds first → ((j : ℕ) → j < k → IsFineAt ds j) → DependsOnItself ds k → first ≡ Some k
depends_first ds None k none fine depends = absurd (none k depends)
depends_first ds (Some c) k h fine depends =
    let late : c < k → ⊥ = λ lt. dependent_is_faulty ds c h.0 (fine c lt) in
    let early : k < c → ⊥ = λ lt. h.1 k lt depends in
    let is : c ≡ k = omega (arith, late, early) in
    ap Some is

first_depends : (ds : List Declaration) (first : Option ℕ) (k : ℕ) → FindsFirstCyclic ds first → first ≡ Some k → DependsOnItself ds k
first_depends ds first k h is = let there : FindsFirstCyclic ds (Some k) = subst (FindsFirstCyclic ds) is h in there.0

-- the fault at this place is the first
pub fault_is_first : (ds : List Declaration) (first : Option ℕ) (k : ℕ) (b : Bool) (d : Declaration) (f : Fault) → FindsFirstCyclic ds first → ((j : ℕ) → j < k → IsFineAt ds j)
    → slice_get ds k ≡ Some d → IsTrue b ↔ (first ≡ Some k) → IsFaultIf (IsTrue b) ds d f → IsFirstFault ds f
fault_is_first ds first k b d f cyclic fine at here h =
    (k, (d, at, same_fault (IsTrue b) (DependsOnItself ds k) ds d f (λ t. first_depends ds first k cyclic (here.0 t)) h), fine)

-- nothing is wrong at this place
pub place_is_fine : (ds : List Declaration) (first : Option ℕ) (k : ℕ) (b : Bool) (d : Declaration) → FindsFirstCyclic ds first → ((j : ℕ) → j < k → IsFineAt ds j)
    → slice_get ds k ≡ Some d → IsTrue b ↔ (first ≡ Some k) → ((f : Fault) → IsFaultIf (IsTrue b) ds d f → ⊥) → IsFineAt ds k
place_is_fine ds first k b d cyclic fine at here none f h =
    let same : h.0 ≡ d = same_Some h.0 d (sym h.1 ∙ at) in
    let fault : IsFaultIf (DependsOnItself ds k) ds d f = subst (λ e. IsFaultIf (DependsOnItself ds k) ds e f) same h.2 in
    none f (same_fault (DependsOnItself ds k) (IsTrue b) ds d f (λ depends. here.1 (depends_first ds first k cyclic fine depends)) fault)

-- nothing is wrong behind the last declaration
pub all_are_fine : (ds : List Declaration) (len : ℕ) → length ds ≤ len → ((j : ℕ) → j < len → IsFineAt ds j) → IsFine ds
all_are_fine ds len all fine k f h = fine k (let within = slice_get_within ds k h.0 h.1 in omega (arith, within, all)) f h

one_fault : (P : Type 0) (ds : List Declaration) (d : Declaration) (f g : Fault) → IsFaultIf P ds d f → IsFaultIf P ds d g → f ≡ g
one_fault P ds d (FloatOrSet a) (FloatOrSet b) h i = ap FloatOrSet (h.1 ∙ sym i.1)
one_fault P ds d (FloatOrSet a) (IllTyped b) h i = absurd (i.0 h.0)
one_fault P ds d (IllTyped a) (FloatOrSet b) h i = absurd (h.0 i.0)
one_fault P ds d (IllTyped a) (IllTyped b) h i = ap IllTyped (h.2 ∙ sym i.2)

pub one_first_fault : HaveOneFirst
one_first_fault ds f g h i =
    let late : i.0 < h.0 → ⊥ = λ lt. h.2 i.0 lt g i.1 in
    let early : h.0 < i.0 → ⊥ = λ lt. i.2 h.0 lt f h.1 in
    let same : i.0 ≡ h.0 = omega (arith, late, early) in
    let other : IsFaultAt ds h.0 g = subst (λ k. IsFaultAt ds k g) same i.1 in
    let one : other.0 ≡ h.1.0 = same_Some other.0 h.1.0 (sym other.1 ∙ h.1.1) in
    one_fault (DependsOnItself ds h.0) ds h.1.0 f g h.1.2 (subst (λ d. IsFaultIf (DependsOnItself ds h.0) ds d g) one other.2)
