-- The names that marks declare.
use Rattle.std.proofs.Common.{◌≡◌, ℕ, zero, suc, ◌<◌, List, [], ◌∷◌, ◌++◌, map, take, Some, slice_get, refl, sym, ◌∙◌, ap, arith}
use Rattle.fzn_symbols.proofs.Lists.{first_among}
use Rattle.std.specs.List.{flat_map}
use Rattle.std.proofs.lemmas.List.{append_assoc}
use Rattle.fzn_symbols.specs.declared.error.NameError.{NameError}
use Rattle.fzn_symbols.specs.declared.error.NameError.TheVariants.{NameTwice}
use Rattle.fzn_symbols.specs.declared.occurrence.Role.{Role}
use Rattle.fzn_symbols.specs.declared.occurrence.Role.TheVariants.{Declares, Uses}
use Rattle.fzn_symbols.specs.Numbered.{Mark, declared_by, declared_names, IsFault}

-- ---- marks one after the other

pub declared_names_append : (xs ys : List Mark) → declared_names (xs ++ ys) ≡ declared_names xs ++ declared_names ys
declared_names_append [] ys = refl
declared_names_append (x ∷ xs) ys =
    ap (λ (ns : List (List ℕ)). declared_by x.role x.name ++ ns) (declared_names_append xs ys) ∙ sym (append_assoc (declared_by x.role x.name) (declared_names xs) (declared_names ys))

-- where nothing declares a name, all of it declares none
pub declares_none : {X : Type 0} (f : X → List Mark) → ((x : X) → declared_names (f x) ≡ []) → (xs : List X) → declared_names (flat_map f xs) ≡ []
declares_none f silent [] = refl
declares_none f silent (x ∷ xs) = declared_names_append (f x) (flat_map f xs) ∙ rw (silent x, declares_none f silent xs) refl

-- where each thing declares one name, all of it declares these names
pub declares_each : {X : Type 0} (f : X → List Mark) (g : X → List ℕ) → ((x : X) → declared_names (f x) ≡ g x ∷ []) → (xs : List X) → declared_names (flat_map f xs) ≡ map g xs
declares_each f g one [] = refl
declares_each f g one (x ∷ xs) = declared_names_append (f x) (flat_map f xs) ∙ rw (one x, declares_each f g one xs) refl

-- ---- the place at which a name is declared

-- what stands early enough stands among the first so many
-- the mark at this place declares the name, and so many declared names stand before
pub record DeclaresAt (marks : List Mark) (j : ℕ) (n : List ℕ) (k : ℕ) : Type 0 where
  pub mark : Mark
  pub stands : slice_get marks k ≡ Some mark
  pub declares : mark.role ≡ Declares
  pub named : mark.name ≡ n
  pub before : declared_names (take k marks) ≡ take j (declared_names marks)

declared_behind : (p : Mark) (marks : List Mark) (r : Role) → p.role ≡ r → (j : ℕ) (n : List ℕ)
    → ((i : ℕ) → slice_get (declared_names marks) i ≡ Some n → (k : ℕ) × DeclaresAt marks i n k)
    → slice_get (declared_by r p.name ++ declared_names marks) j ≡ Some n → (k : ℕ) × DeclaresAt (p ∷ marks) j n k
declared_behind p marks Uses is j n further e =
    let there = further j e in
    let place = there.1 in (
      suc there.0,
      record {
        mark = place.mark;
        stands = place.stands;
        declares = place.declares;
        named = place.named;
        before = rw is place.before;
      },
    )
declared_behind p marks Declares is zero n further e = (zero, record { mark = p; stands = refl; declares = is; named = cc; before = refl })
declared_behind p marks Declares is (suc j) n further e =
    let there = further j e in
    let place = there.1 in (
      suc there.0,
      record {
        mark = place.mark;
        stands = place.stands;
        declares = place.declares;
        named = place.named;
        before = rw is (ap (λ (ns : List (List ℕ)). p.name ∷ ns) place.before);
      },
    )

pub declared_place : (marks : List Mark) (j : ℕ) (n : List ℕ) → slice_get (declared_names marks) j ≡ Some n → (k : ℕ) × DeclaresAt marks j n k
declared_place [] j n e = absurd cc
declared_place (p ∷ marks) j n e = declared_behind p marks p.role refl j n (λ i. declared_place marks i n) e

-- ---- names that are different

not_twice : (marks : List Mark) → ((k : ℕ) (e : NameError) → IsFault marks k e → ⊥) → (i j : ℕ) (n : List ℕ)
    → slice_get (declared_names marks) i ≡ Some n → slice_get (declared_names marks) j ≡ Some n → i < j → ⊥
not_twice marks faultless i j n here there lt =
    let found = declared_place marks j n there in
    let place = found.1 in
    let early : slice_get (declared_names (take found.0 marks)) i ≡ Some place.mark.name = rw (place.before, place.named) (first_among (declared_names marks) j i n lt here) in
    faultless found.0 (NameTwice place.mark.at) (place.mark, place.stands, place.declares, (i, early), refl)

pub declared_different : (marks : List Mark) → ((k : ℕ) (e : NameError) → IsFault marks k e → ⊥) → (i j : ℕ) (n : List ℕ)
    → slice_get (declared_names marks) i ≡ Some n → slice_get (declared_names marks) j ≡ Some n → i ≡ j
declared_different marks faultless i j n here there =
    let not_before = not_twice marks faultless i j n here there in
    let not_behind = not_twice marks faultless j i n there here in
    omega (arith, not_before, not_behind)
