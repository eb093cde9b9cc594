-- What is found at declarations, one declaration after the other.
use Rattle.std.proofs.Common.{◌≡◌, ℕ, zero, suc, ◌+◌, ◌<◌, List, [], ◌∷◌, ◌++◌, length, take, drop, get_or, slice_index_or, Option, refl, sym, ◌∙◌, ap, subst, arith}
use Rattle.std.proofs.Math.Seq.{drop-length}
use Rattle.std.proofs.lemmas.List.{append_assoc, append-nil, drop_more}
use Rattle.std.proofs.lemmas.List.Sums.{sum_by-cons}
use Rattle.std.proofs.lemmas.Option.{get_or_from_slice_get}
use Rattle.fzn_arguments.specs.Numbers.{AreNumbers}
use Rattle.fzn_limits.specs.Sizes.{variables_in}
use Rattle.fzn_model.specs.Found.{AreFound, count_by, listed}
use Rattle.fzn_model.proofs.Declaring.{count_more}
use Rattle.fzn_syntax.specs.declared.declaration.Declaration.{Declaration}

module _ {X : Type 0} (F : ℕ → Declaration → Option X → Type 0) where
  -- what is found at the rest is found at all, behind what is done
  abbrev pub Continues : List Declaration → ℕ → List X → Type 0
  Continues ds i done = (xs : List X) → AreFound F (variables_in (take i ds)) (drop i ds) xs → AreFound F 0 ds (done ++ xs)

  pub continues_more : (ds : List Declaration) (i : ℕ) (d : Declaration) (x : Option X) (done : List X) → i < length ds → d ≡ get_or ds i d
      → Continues ds i done → F (variables_in (take i ds)) d x → Continues ds (i + 1) (done ++ listed x)
  continues_more ds i d x done within is so_far f xs rest =
      let here : AreFound F (variables_in (take i ds)) (d ∷ drop (i + 1) ds) (listed x ++ xs) =
      (x, xs, f, refl, subst (λ n. AreFound F n (drop (i + 1) ds) xs) (count_more ds i d within is) rest) in
      let split : drop i ds ≡ d ∷ drop (i + 1) ds = drop_more ds i d within ∙ ap (λ e. e ∷ drop (i + 1) ds) (sym is) in
      subst (AreFound F 0 ds) (sym (append_assoc done (listed x) xs))
      (so_far (listed x ++ xs) (subst (λ es. AreFound F (variables_in (take i ds)) es (listed x ++ xs)) (sym split) here))

  pub continues_end : (ds : List Declaration) (done : List X) → Continues ds (length ds) done → AreFound F 0 ds done
  continues_end ds done so_far =
      subst (AreFound F 0 ds) (append-nil done)
      (so_far [] (subst (λ es. AreFound F (variables_in (take (length ds) ds)) es []) (sym (drop-length ds)) refl))

  found_from : (n : ℕ) (ds : List Declaration) (xs : List X) (i : ℕ) (d : Declaration) → i < length ds → d ≡ get_or ds i d → AreFound F n ds xs
      → (x : Option X) × F (n + variables_in (take i ds)) d x
  found_from n [] xs i d within is h = absurd (omega (arith, within))
  found_from n (e ∷ ds) xs zero d within is h =
      let same : n + 0 ≡ n = omega arith in
      (h.0, subst (λ m. F m d h.0) (sym same) (subst (λ c. F n c h.0) (sym is) h.2))
  found_from n (e ∷ ds) xs (suc i) d within is h =
      let there = found_from (n + count_by e) ds h.1 i d (omega (arith, within)) is h.4 in
      let cons : variables_in (e ∷ take i ds) ≡ count_by e + variables_in (take i ds) = sum_by-cons count_by e (take i ds) in
      let same : (n + count_by e) + variables_in (take i ds) ≡ n + variables_in (e ∷ take i ds) = omega (arith, cons) in
      (there.0, subst (λ m. F m d there.0) same there.1)

  -- something is found at each, or nothing is found
  pub found_nowhere : (ds : List Declaration) (i : ℕ) (d : Declaration) → i < length ds → d ≡ get_or ds i d → ((x : Option X) → F (variables_in (take i ds)) d x → ⊥)
      → (xs : List X) → AreFound F 0 ds xs → ⊥
  found_nowhere ds i d within is none xs h =
      let there = found_from 0 ds xs i d within is h in
      let same : 0 + variables_in (take i ds) ≡ variables_in (take i ds) = omega arith in
      none there.0 (subst (λ m. F m d there.0) same there.1)

  -- what is found is one, where it is at each declaration
  pub one_found : ((n : ℕ) (d : Declaration) (x y : Option X) → F n d x → F n d y → x ≡ y) → (n : ℕ) (ds : List Declaration) (xs ys : List X) → AreFound F n ds xs → AreFound F n ds ys → xs ≡ ys
  one_found one n [] xs ys h g = h ∙ sym g
  one_found one n (d ∷ ds) xs ys h g =
      let first : h.0 ≡ g.0 = one n d h.0 g.0 h.2 g.2 in
      let rest : h.1 ≡ g.1 = one_found one (n + count_by d) ds h.1 g.1 h.4 g.4 in
      h.3 ∙ ap (λ x. listed x ++ h.1) first ∙ ap (λ zs. listed g.0 ++ zs) rest ∙ sym g.3

pub number_at_place : (ds : List Declaration) (ns : List ℕ) → AreNumbers ds ns → (i : ℕ) → i < length ds → slice_index_or ns i 0 ≡ variables_in (take i ds)
number_at_place ds ns numbers i within = get_or_from_slice_get ns i (variables_in (take i ds)) 0 (numbers.at i within)

-- what is found at a place by its number, where the declarations are all
module _ {X : Type 0} (F : List Declaration → ℕ → Declaration → Option X → Type 0) (ds vs : List Declaration) (same : vs ≡ ds) (ns : List ℕ) (numbers : AreNumbers ds ns) (i : ℕ) (within : i < length ds) (d : Declaration) (x : Option X) where
  pub there : F vs (slice_index_or ns i 0) d x → F ds (variables_in (take i ds)) d x
  there h = subst (λ n. F ds n d x) (number_at_place ds ns numbers i within) (subst (λ es. F es (slice_index_or ns i 0) d x) same h)

  pub back : F ds (variables_in (take i ds)) d x → F vs (slice_index_or ns i 0) d x
  back h = subst (λ es. F es (slice_index_or ns i 0) d x) (sym same) (subst (λ n. F ds n d x) (sym (number_at_place ds ns numbers i within)) h)
