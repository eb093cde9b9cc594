-- Steps behind each other.
use Rattle.std.proofs.Common.{◌≡◌, ◌⊎◌, inl, inr, List, Option, Some, None, MatchOption, Result, Ok, Err, refl, sym, ap, subst}
use Rattle.dom_model.specs.Draft.{Draft}
use Rattle.dom_model.specs.Finished.{Finishes}
use Rattle.dom_model.specs.Problem.{Problem}
use Rattle.dom_model.specs.declared.error.BuildError.{BuildError}
use Rattle.dom_model.specs.declared.error.BuildError.TheVariants as build
use Rattle.fzn_check.specs.DeclarationFaults as declared
use Rattle.fzn_check.specs.declared.fault.Fault.{Fault}
use Rattle.fzn_check.specs.ConstraintFaults as posted
use Rattle.fzn_syntax.specs.declared.constraint.Constraint.{Constraint}
use Rattle.fzn_syntax.specs.declared.declaration.Declaration.{Declaration}
use Rattle.fzn_lower.specs.Finding.{Step, ◌⟫◌, Finds, FindsOne}
use Rattle.fzn_lower.specs.Lowered.{Ends, Lowers, answer_told}
use Rattle.fzn_lower.specs.declared.error.ModelError.{ModelError}
use Rattle.fzn_lower.specs.declared.error.ModelError.TheVariants.{TooMany, NameTwice, UnknownName, UnknownConstraint, WrongArguments, FloatOrSet, CyclicDefinition, EmptyDomain, Unbounded, DomainTooLarge, TooWide, NotBuilt, Memory}
use Rattle.fzn_model.specs.Drafts.{Drafts}
use Rattle.fzn_syntax.specs.declared.items.Items.{Items}
use Rattle.fzn_totality.specs.Totality.{AreRight, IsUndrafted, UndraftedLaw}

-- what the first step finds is found
pub found_first : (F G : Step) (e : ModelError) → Finds F (Err e) → Finds (F ⟫ G) (Err e)
found_first F G (TooMany what count) h = inl h
found_first F G (NameTwice at) h = inl h
found_first F G (UnknownName at) h = inl h
found_first F G (UnknownConstraint at) h = inl h
found_first F G (WrongArguments at) h = inl h
found_first F G (FloatOrSet at) h = inl h
found_first F G (CyclicDefinition x) h = absurd h
found_first F G (EmptyDomain x) h = absurd h
found_first F G (Unbounded x) h = absurd h
found_first F G (DomainTooLarge x count) h = absurd h
found_first F G (TooWide c) h = absurd h
found_first F G NotBuilt h = absurd h
found_first F G Memory h = tt

-- where it finds nothing, what the second finds is found
pub found_second : (F G : Step) (r : Result (Unit {0}) ModelError) → F None → Finds G r → Finds (F ⟫ G) r
found_second F G (Ok u) f h = (f, h)
found_second F G (Err (TooMany what count)) f h = inr (f, h)
found_second F G (Err (NameTwice at)) f h = inr (f, h)
found_second F G (Err (UnknownName at)) f h = inr (f, h)
found_second F G (Err (UnknownConstraint at)) f h = inr (f, h)
found_second F G (Err (WrongArguments at)) f h = inr (f, h)
found_second F G (Err (FloatOrSet at)) f h = inr (f, h)
found_second F G (Err (CyclicDefinition x)) f h = absurd h
found_second F G (Err (EmptyDomain x)) f h = absurd h
found_second F G (Err (Unbounded x)) f h = absurd h
found_second F G (Err (DomainTooLarge x count)) f h = absurd h
found_second F G (Err (TooWide c)) f h = absurd h
found_second F G (Err NotBuilt) f h = absurd h
found_second F G (Err Memory) f h = tt

-- what a step finds is the answer
pub lowers_found : (F : Step) (t : Items) (e : ModelError) → Finds F (Err e) → Lowers F t (Err e)
lowers_found F t (TooMany what count) h = inl h
lowers_found F t (NameTwice at) h = h
lowers_found F t (UnknownName at) h = h
lowers_found F t (UnknownConstraint at) h = h
lowers_found F t (WrongArguments at) h = h
lowers_found F t (FloatOrSet at) h = h
lowers_found F t (CyclicDefinition x) h = absurd h
lowers_found F t (EmptyDomain x) h = absurd h
lowers_found F t (Unbounded x) h = absurd h
lowers_found F t (DomainTooLarge x count) h = absurd h
lowers_found F t (TooWide c) h = absurd h
lowers_found F t NotBuilt h = absurd h
lowers_found F t Memory h = tt

-- where the first step finds nothing, the answer is that of the second
pub lowers_second : (F G : Step) (t : Items) (r : Result Problem ModelError) → F None → Lowers G t r → Lowers (F ⟫ G) t r
lowers_second F G t (Ok p) f h = ((f, h.0), h.1)
lowers_second F G t (Err (TooMany what count)) f (inl h) = inl (inr (f, h))
lowers_second F G t (Err (TooMany what count)) f (inr h) = inr ((f, h.0), h.1)
lowers_second F G t (Err (NameTwice at)) f h = inr (f, h)
lowers_second F G t (Err (UnknownName at)) f h = inr (f, h)
lowers_second F G t (Err (UnknownConstraint at)) f h = inr (f, h)
lowers_second F G t (Err (WrongArguments at)) f h = inr (f, h)
lowers_second F G t (Err (FloatOrSet at)) f h = inr (f, h)
lowers_second F G t (Err (CyclicDefinition x)) f h = ((f, h.0), h.1)
lowers_second F G t (Err (EmptyDomain x)) f h = ((f, h.0), h.1)
lowers_second F G t (Err (Unbounded x)) f h = ((f, h.0), h.1)
lowers_second F G t (Err (DomainTooLarge x count)) f h = ((f, h.0), h.1)
lowers_second F G t (Err (TooWide c)) f h = ((f, h.0), h.1)
lowers_second F G t (Err NotBuilt) f h = ((f, h.0), h.1)
lowers_second F G t (Err Memory) f h = tt

-- where the step finds nothing, the answer is that over what the items are put together as
pub lowers_put : (F : Step) (t : Items) (d : Draft) (q : Result Problem BuildError) → F None → Drafts t d → Finishes d q → Lowers F t (answer_told q)
lowers_put F t d (Ok p) f put h = (f, record { draft = d; put = put; finished = h })
lowers_put F t d (Err (build.CyclicDefinition x)) f put h = (f, record { draft = d; put = put; fault = h })
lowers_put F t d (Err (build.EmptyDomain x)) f put h = (f, record { draft = d; put = put; fault = h })
lowers_put F t d (Err (build.Unbounded x)) f put h = (f, record { draft = d; put = put; fault = h })
lowers_put F t d (Err (build.DomainTooLarge x count)) f put h = (f, record { draft = d; put = put; fault = h })
lowers_put F t d (Err (build.TooMany what count)) f put h = inr (f, record { draft = d; put = put; fault = h })
lowers_put F t d (Err (build.TooWide c)) f put h = (f, record { draft = d; put = put; fault = h })
lowers_put F t d (Err build.Memory) f put h = tt

pub lowers_ended : (F : Step) (t : Items) (d : Draft) (r : Result Problem ModelError) → F None → Drafts t d → Ends d r → Lowers F t r
lowers_ended F t d r f put ends = subst (Lowers F t) (sym ends.2) (lowers_put F t d ends.0 f put ends.1)

-- where it finds nothing and right items are in no way put together, one of their constraints isn't built
pub lowers_unbuilt : (F : Step) (t : Items) → UndraftedLaw → F None → AreRight t → IsUndrafted t → Lowers F t (Err NotBuilt)
lowers_unbuilt F t law f right undrafted = (f, law t right undrafted)

-- two steps that find one thing at most, one behind the other, find one
pub one_behind : (F G : Step) → FindsOne F → FindsOne G → FindsOne (F ⟫ G)
one_behind F G f g None None h k = refl
one_behind F G f g None (Some e) h (inl k) = f None (Some e) h.0 k
one_behind F G f g None (Some e) h (inr k) = g None (Some e) h.1 k.1
one_behind F G f g (Some d) None (inl h) k = f (Some d) None h k.0
one_behind F G f g (Some d) None (inr h) k = g (Some d) None h.1 k.1
one_behind F G f g (Some d) (Some e) (inl h) (inl k) = f (Some d) (Some e) h k
one_behind F G f g (Some d) (Some e) (inl h) (inr k) = absurd (some_none d (f (Some d) None h k.0))
  where
    some_none : (d : ModelError) → ◌≡◌ {A = Option ModelError} (Some d) None → ⊥
    some_none d e = absurd cc
one_behind F G f g (Some d) (Some e) (inr h) (inl k) = absurd (none_some e (f None (Some e) h.0 k))
  where
    none_some : (e : ModelError) → ◌≡◌ {A = Option ModelError} None (Some e) → ⊥
    none_some e c = absurd cc
one_behind F G f g (Some d) (Some e) (inr h) (inr k) = g (Some d) (Some e) h.1 k.1

-- ---- what the lower layers find

-- no declaration is at fault
pub fine_declarations : (ds es : List Declaration) (o : Option Fault) → ds ≡ es → o ≡ None → MatchOption o (declared.IsFine ds) (declared.IsFirstFault ds) → declared.IsFine es
fine_declarations ds es o same is h = subst declared.IsFine same (rw is at h)

-- this is the first that is
pub faulty_declaration : (ds es : List Declaration) (o : Option Fault) (f : Fault) → ds ≡ es → o ≡ Some f → MatchOption o (declared.IsFine ds) (declared.IsFirstFault ds)
    → declared.IsFirstFault es f
faulty_declaration ds es o f same is h = subst (λ cs. declared.IsFirstFault cs f) same (rw is at h)

-- likewise constraints
pub fine_constraints : (ds es : List Declaration) (cs bs : List Constraint) (o : Option Fault) → ds ≡ es → cs ≡ bs → o ≡ None
    → MatchOption o (posted.IsFine ds cs) (posted.IsFirstFault ds cs) → posted.IsFine es bs
fine_constraints ds es cs bs o same all is h = subst (λ xs. posted.IsFine xs bs) same (subst (posted.IsFine ds) all (rw is at h))

pub faulty_constraint : (ds es : List Declaration) (cs bs : List Constraint) (o : Option Fault) (f : Fault) → ds ≡ es → cs ≡ bs → o ≡ Some f
    → MatchOption o (posted.IsFine ds cs) (posted.IsFirstFault ds cs) → posted.IsFirstFault es bs f
faulty_constraint ds es cs bs o f same all is h = subst (λ xs. posted.IsFirstFault xs bs f) same (subst (λ xs. posted.IsFirstFault ds xs f) all (rw is at h))
