-- Written constraints, one after the other.
use Rattle.std.proofs.Common.{◌≡◌, ℕ, zero, suc, ◌+◌, ◌<◌, Bool, true, List, [], ◌∷◌, ◌++◌, length, drop, get_or, Option, Some, None, Err, refl, sym, ◌∙◌, ap, subst, arith}
use Rattle.std.proofs.Math.Seq.{drop-length}
use Rattle.std.proofs.lemmas.List.{append_assoc, append-nil, drop_more, length-set}
use Rattle.any_kind.specs.declared.any.AnyKind.{AnyKind}
use Rattle.dom_core.specs.declared.var_id.VarId.{VarId}
use Rattle.dom_definers.specs.declared.posted.Posted.{Posted}
use Rattle.dom_model.specs.Draft.{Draft, IsFitPosted}
use Rattle.fzn_forms.specs.Kinds.{HasOneKind, IsKindOf}
use Rattle.fzn_limits.specs.Sizes.{variables_in}
use Rattle.fzn_model.proofs.Bounds.{kind_below, numbered_below}
use Rattle.fzn_model.proofs.DefiningLaws.{defines_shaped, one_defines}
use Rattle.fzn_model.proofs.Fitting.{posted_fit}
use Rattle.fzn_model.specs.Defining.{Defines, with_defined}
use Rattle.fzn_model.specs.Posting.{ArePosted, initialised, IsPosted, posted_as}
use Rattle.fzn_model.specs.Steps.{AreWritten, IsPostedNext}
use Rattle.fzn_model.specs.declared.error.ResolveError.{ResolveError}
use Rattle.fzn_model.specs.declared.error.ResolveError.TheVariants.{NotBuilt, Memory}
use Rattle.fzn_symbols.specs.Named.{names_of, AreDifferent}
use Rattle.fzn_syntax.specs.declared.annotation.Annotation.{Annotation}
use Rattle.fzn_syntax.specs.declared.constraint.Constraint.{Constraint}
use Rattle.fzn_syntax.specs.declared.declaration.Declaration.{Declaration}

-- ---- one constraint

pub with_length : (flags : List Bool) (r : Option VarId) → length (with_defined flags r) ≡ length flags
with_length flags None = refl
with_length flags (Some x) = length-set flags x.0 true

pub defines_same : (ds es : List Declaration) (b d : List Bool) (n m : List ℕ) (k : AnyKind) (xs ys : List Annotation) (r : Option VarId) → ds ≡ es → b ≡ d → n ≡ m → xs ≡ ys
    → Defines ds b n k xs r → Defines es d m k ys r
defines_same ds es b d n m k xs ys r one two three four h =
    subst (λ zs. Defines es d m k zs r) four (subst (λ l. Defines es d l k xs r) three (subst (λ f. Defines es f n k xs r) two (subst (λ fs. Defines fs b n k xs r) one h)))

module _ (ds : List Declaration) where
  module _ (defined : List Bool) (name : List ℕ) (k : AnyKind) (marks : List Annotation) (r : Option VarId) (defines : Defines ds defined name k marks r) where
    -- what is defined is declared
    pub defined_below : (x : VarId) → r ≡ Some x → x.0 < variables_in ds
    defined_below x is = let told = defines_shaped ds defined name k marks r defines x is in numbered_below ds told.1 told.0 x told.2

    pub kind_fit : (c : Constraint) → IsKindOf ds c k → IsFitPosted (variables_in ds) (posted_as k r)
    kind_fit c is = posted_fit (variables_in ds) k r (kind_below ds c k is) (λ x e. (defined_below x e, (defines_shaped ds defined name k marks r defines x e).3))

  -- ---- all constraints

  -- what the rest posts is what all post, behind what is done
  abbrev pub PostsOn : List Constraint → ℕ → List Bool → List Posted → Type 0
  PostsOn cs i defined done = (ps : List Posted) → ArePosted ds defined (drop i cs) ps → ArePosted ds (initialised ds) cs (done ++ ps)

  pub posts_start : (cs : List Constraint) (defined : List Bool) → defined ≡ initialised ds → PostsOn cs 0 defined []
  posts_start cs defined e ps h = subst (λ b. ArePosted ds b cs ps) e h

  pub posts_more : (cs : List Constraint) (i : ℕ) (c : Constraint) (defined : List Bool) (done : List Posted) (p : Posted) → i < length cs → c ≡ get_or cs i c → PostsOn cs i defined done
      → IsPosted ds defined c p → PostsOn cs (i + 1) (with_defined defined p.defines) (done ++ p ∷ [])
  posts_more cs i c defined done p within is so_far h ps rest =
      let split : drop i cs ≡ c ∷ drop (i + 1) cs = drop_more cs i c within ∙ ap (λ e. e ∷ drop (i + 1) cs) (sym is) in
      subst (ArePosted ds (initialised ds) cs) (sym (append_assoc done (p ∷ []) ps))
      (so_far (p ∷ ps) (subst (λ es. ArePosted ds defined es (p ∷ ps)) (sym split) (h, rest)))

  pub posts_end : (cs : List Constraint) (defined : List Bool) (done : List Posted) → PostsOn cs (length cs) defined done → ArePosted ds (initialised ds) cs done
  posts_end cs defined done so_far =
      subst (ArePosted ds (initialised ds) cs) (append-nil done) (so_far [] (subst (λ es. ArePosted ds defined es []) (sym (drop-length cs)) tt))

  pub posted_length : (b : List Bool) (cs : List Constraint) (ps : List Posted) → ArePosted ds b cs ps → length ps ≡ length cs
  posted_length b [] [] h = refl
  posted_length b [] (p ∷ ps) h = absurd h
  posted_length b (c ∷ cs) [] h = absurd h
  posted_length b (c ∷ cs) (p ∷ ps) h = ap suc (posted_length (with_defined b p.defines) cs ps h.1)

  posted_kind : (b : List Bool) (cs : List Constraint) (ps : List Posted) (i : ℕ) (c : Constraint) → i < length cs → c ≡ get_or cs i c → ArePosted ds b cs ps → (k : AnyKind) × IsKindOf ds c k
  posted_kind b [] ps i c within is h = absurd (omega (arith, within))
  posted_kind b (e ∷ cs) [] i c within is h = absurd h
  posted_kind b (e ∷ cs) (p ∷ ps) zero c within is h = (h.0.kind, subst (λ f. IsKindOf ds f h.0.kind) (sym is) h.0.is)
  posted_kind b (e ∷ cs) (p ∷ ps) (suc i) c within is h = posted_kind (with_defined b p.defines) cs ps i c (omega (arith, within)) is h.1

  pub writes_none : (cs : List Constraint) (old new before after : Draft) (b d : List Bool) (i : ℕ) (c : Constraint) (e : ResolveError) → i < length cs → c ≡ get_or cs i c
      → IsPostedNext ds b before c d after (Err e) → AreWritten ds cs old new (Err e)
  writes_none cs old new before after b d i c NotBuilt within is none = λ ps h. let there = posted_kind (initialised ds) cs ps i c within is h in none there.0 there.1
  writes_none cs old new before after b d i c Memory within is none = tt

  -- ---- constraints post one thing

  module _ (different : AreDifferent (names_of ds)) (one : HasOneKind) where
    one_posting : (b : List Bool) (c : Constraint) (p q : Posted) → IsPosted ds b c p → IsPosted ds b c q → p ≡ q
    one_posting b c p q h g =
        let kind : h.kind ≡ g.kind = one ds c h.kind g.kind different h.is g.is in
        let defines : p.defines ≡ q.defines =
        one_defines ds b c.name.name g.kind different c.annotations p.defines q.defines (subst (λ k. Defines ds b c.name.name k c.annotations p.defines) kind h.defines) g.defines in
        h.solved ∙ ap (λ k. posted_as k p.defines) kind ∙ ap (λ r. posted_as g.kind r) defines ∙ sym g.solved

    pub one_posted : (b : List Bool) (cs : List Constraint) (ps qs : List Posted) → ArePosted ds b cs ps → ArePosted ds b cs qs → ps ≡ qs
    one_posted b [] [] [] h g = refl
    one_posted b [] [] (q ∷ qs) h g = absurd g
    one_posted b [] (p ∷ ps) qs h g = absurd h
    one_posted b (c ∷ cs) [] qs h g = absurd h
    one_posted b (c ∷ cs) (p ∷ ps) [] h g = absurd g
    one_posted b (c ∷ cs) (p ∷ ps) (q ∷ qs) h g =
        let first : p ≡ q = one_posting b c p q h.0 g.0 in
        let rest : ps ≡ qs = one_posted (with_defined b q.defines) cs ps qs (subst (λ (r : Posted). ArePosted ds (with_defined b r.defines) cs ps) first h.1) g.1 in
        ap (λ (r : Posted). r ∷ ps) first ∙ ap (λ (rs : List Posted). q ∷ rs) rest
