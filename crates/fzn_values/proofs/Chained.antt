-- The ends of chains of names are the literals that the names stand for.
use Rattle.std.proofs.Common.{◌≡◌, ℕ, ◌+◌, ◌<◌, ◌≤◌, ◌⊎◌, inl, inr, true, List, [], ◌∷◌, ◌++◌, length, slice_get, Option, None, Some, MatchOption, refl, sym, ◌∙◌, ap, subst, arith}
use Rattle.std.proofs.lemmas.List.{get_or_append_left, get_or_push, length_push}
use Rattle.std.proofs.lemmas.Option.{slice_get_within, same_Some}
use Rattle.chains.specs.declared.link.Link.{Link}
use Rattle.chains.specs.declared.link.Link.TheVariants as places
use Rattle.chains.specs.Chains.{link_at, Ends, here, there, IsEnd, end_at, AreEnds}
use Rattle.fzn_syntax.specs.declared.declaration.Declaration.{Declaration}
use Rattle.fzn_syntax.specs.declared.expression.Expression.{Expression}
use Rattle.fzn_symbols.specs.Named.{names_of, AreDifferent}
use Rattle.fzn_values.specs.declared.literal.LiteralKind.{LiteralKind}
use Rattle.fzn_values.specs.Literals.{is_literal, value_for, StandsFor, itself, through}
use Rattle.fzn_values.specs.Links.{IsValueLink, IsLinkOf, AreLinks, EndsAt, is_here, leads_on, IsLiteralOf, AreLiterals}
use Rattle.fzn_values.proofs.Named.{one_place, literal_unnamed}

module _ (ds : List Declaration) (literal : LiteralKind) (links : List Link) (are : AreLinks ds literal links) (different : AreDifferent (names_of ds)) where
  link_is : (k : ℕ) (d : Declaration) (v : Expression) → slice_get ds k ≡ Some d → value_for literal d ≡ Some v → IsValueLink ds literal v (link_at links k)
  link_is k d v at has = subst (λ o. MatchOption o (link_at links k ≡ places.Nothing) (λ x. IsValueLink ds literal x (link_at links k))) has (are k d at)

  no_end : (k e : ℕ) → link_at links k ≡ places.Nothing → Ends links k e → ⊥
  no_end k e is (here end same) = absurd cc
  no_end k e is (there j to ends) = absurd cc

  -- what a chain ends at is followed from a value
  has_value : (k e : ℕ) (d : Declaration) → Ends links k e → slice_get ds k ≡ Some d → (v : Expression) × (value_for literal d ≡ Some v)
  has_value k e d ends at = by (value_for literal d) (are k d at)
    where
      by : (o : Option Expression) → MatchOption o (link_at links k ≡ places.Nothing) (λ v. IsValueLink ds literal v (link_at links k)) → (v : Expression) × (o ≡ Some v)
      by None h = absurd (no_end k e h ends)
      by (Some v) h = (v, refl)

  -- the chain of links is the chain of names
  leads : (k e : ℕ) → Ends links k e → (d : Declaration) → slice_get ds k ≡ Some d → EndsAt ds literal d e
  leads k e (here end same) d at =
      let has = has_value k e d (here end same) at in
      let w : is_literal literal has.0 ≡ true = subst (λ x. IsValueLink ds literal has.0 x) end (link_is k d has.0 at has.1) in
      is_here has.0 (subst (λ x. slice_get ds x ≡ Some d) (sym same) at) has.1 w
  leads k e (there j to more) d at =
      let has = has_value k e d (there j to more) at in
      let w : IsValueLink ds literal has.0 (places.To j) = subst (λ x. IsValueLink ds literal has.0 x) to (link_is k d has.0 at has.1) in
      leads_on has.0 w.1 w.3.0 has.1 w.2 (j, w.3.1, w.3.2) (leads j e more w.3.0 w.3.1)

  ends_at : (v l : Expression) → StandsFor ds literal v l → (k : ℕ) (d : Declaration) → slice_get ds k ≡ Some d → value_for literal d ≡ Some v → (e : ℕ) × Ends links k e
  ends_at v l (itself is same) k d at has = by (link_at links k) refl (link_is k d v at has)
    where
      by : (x : Link) → link_at links k ≡ x → IsValueLink ds literal v x → (e : ℕ) × Ends links k e
      by places.End to w = (k, here to refl)
      by (places.To j) to w = let f = w.0 in absurd cc
      by places.Nothing to w = let f = w.0 in absurd cc
  ends_at v l (through n next u named is has_next more) k d at has = by (link_at links k) refl (link_is k d v at has) (λ j there_at. ends_at u l more j next there_at has_next)
    where
      by : (x : Link) → link_at links k ≡ x → IsValueLink ds literal v x → ((j : ℕ) → slice_get ds j ≡ Some next → (e : ℕ) × Ends links j e) → (e : ℕ) × Ends links k e
      by places.End to w on = absurd (literal_unnamed literal v n w named)
      by (places.To j) to w on =
          let same_name : w.1 ≡ n = same_Some w.1 n (sym w.2 ∙ named) in
          let same : is.0 ≡ j = one_place ds n is.0 j next w.3.0 different is.1 is.2 w.3.1 (w.3.2 ∙ same_name) in
          let r = on j (subst (λ x. slice_get ds x ≡ Some next) same is.1) in
          (r.0, there j to r.1)
      by places.Nothing to w on = absurd (w.1 n named next is)

  pub literals_are : (ends : List (Option ℕ)) → AreEnds links ends → AreLiterals ds literal ends
  literals_are kept true_ends k d at = by (end_at kept k) (true_ends k)
    where
      by : (r : Option ℕ) → IsEnd links k r → IsLiteralOf ds literal d r
      by None h = λ v l has s. let e = ends_at v l s k d at has in h e.0 e.1
      by (Some e) h = leads k e h d at

-- ---- links one by one

same_or_other : (i j : ℕ) → (i ≡ j) ⊎ (i ≡ j → ⊥)
same_or_other i j = grind arith

pub links_more : (ds : List Declaration) (literal : LiteralKind) (links : List Link) (i : ℕ) (c : Declaration) (x : Link) → length links ≡ i
    → ((k : ℕ) (d : Declaration) → k < i → slice_get ds k ≡ Some d → IsLinkOf ds literal d (link_at links k)) → slice_get ds i ≡ Some c → IsLinkOf ds literal c x
    → (k : ℕ) (d : Declaration) → k < i + 1 → slice_get ds k ≡ Some d → IsLinkOf ds literal d (link_at (links ++ x ∷ []) k)
links_more ds literal links i c x size before item is k d lt at =
    elim (same_or_other k i) [
      | inl same ↦ (
          let one : d ≡ c = same_Some d c (sym at ∙ subst (λ j. slice_get ds j ≡ Some c) (sym same) item) in
          let read : link_at (links ++ x ∷ []) k ≡ x = get_or_push links x places.Nothing k (size ∙ sym same) in
          subst (λ y. IsLinkOf ds literal d y) (sym read) (subst (λ y. IsLinkOf ds literal y x) (sym one) is))
      | inr apart ↦ (
          let below : k < i = omega (arith, lt, apart) in
          let read : link_at (links ++ x ∷ []) k ≡ link_at links k = get_or_append_left links (x ∷ []) places.Nothing k (omega (arith, below, size)) in
          subst (λ y. IsLinkOf ds literal d y) (sym read) (before k d below at))
    ]

pub links_whole : (ds xs : List Declaration) (literal : LiteralKind) (links : List Link) (i : ℕ) → xs ≡ ds → length xs ≤ i
    → ((k : ℕ) (d : Declaration) → k < i → slice_get ds k ≡ Some d → IsLinkOf ds literal d (link_at links k)) → AreLinks ds literal links
links_whole ds xs literal links i same whole are k d at = are k d (omega (arith, whole, ap length same, slice_get_within ds k d at)) at

pub links_size : (links : List Link) (x : Link) (i : ℕ) → length links ≡ i → length (links ++ x ∷ []) ≡ i + 1
links_size links x i size = omega (arith, size, length_push links x)
