-- Right marks.
use Rattle.std.proofs.Common.{◌≡◌, ◌↔◌, ◌<◌, ◌≤◌, ℕ, ℤ, pos, ◌<ℤ◌, Bool, true, false, IsTrue, List, length, take, get_or, Result, Ok, Err, arith, refl, sym, subst}
use Rattle.std.specs.List.{All}
use Rattle.std.specs.Result.{IfOk}
use Rattle.std.proofs.lemmas.Int.{ints}
use Rattle.std.proofs.lemmas.List.{take_all}
use Rattle.fzn_syntax.specs.declared.annotation.Annotation.{Annotation}
use Rattle.fzn_output_marks.specs.Sets.{HasRightSets}
use Rattle.fzn_check.specs.OutputArrays.{IndexesArray}

-- one that is not so is enough
pub one_is_not : {X : Type 0} (P : X → Type 0) (xs ys : List X) (i : ℕ) (x : X) (b : Bool) → ys ≡ xs → i < length ys → x ≡ get_or ys i x → IsTrue b ↔ P x → b ≡ false
    → IsTrue false ↔ All P xs
one_is_not P xs ys i x b same lt is told wrong =
    (λ h. absurd cc, λ all. let ones : All P ys = subst (All P) (sym same) all in let right : b ≡ true = told.1 (subst P (sym is) (ones i x lt)) in absurd cc)

-- all are so where as many are as there are
pub all_are : {X : Type 0} (P : X → Type 0) (xs ys : List X) (i : ℕ) → ys ≡ xs → length ys ≤ i → All P (take i ys) → IsTrue true ↔ All P xs
all_are P xs ys i same all so_far = (λ h. subst (All P) same (subst (All P) (take_all i ys all) so_far), λ h. refl)

-- an index below 0 is that of no array
pub below_no_array : (last : ℤ) (a : Annotation) → last <ℤ pos 0 → IsTrue false ↔ IndexesArray last a
below_no_array last a below = (λ h. absurd cc, λ h. let is : last ≡ pos h.0 = h.1 in absurd (omega (arith, ints, below, is)))

same_count : (last : ℤ) (m n : ℕ) → last ≡ pos m → last ≡ pos n → n ≡ m
same_count last m n is other = omega (arith, ints, is, other)

-- what is asked of the length is asked of the last index
pub index_told : {E : Type 0} (last : ℤ) (m : ℕ) (a : Annotation) (r : Result Bool E) → last ≡ pos m → IfOk r (λ right. IsTrue right ↔ HasRightSets a m)
    → IfOk r (λ right. IsTrue right ↔ IndexesArray last a)
index_told last m a (Ok right) is told = (λ h. (m, is, told.0 h), λ h. told.1 (subst (HasRightSets a) (same_count last m h.0 is h.1) h.2))
index_told last m a (Err e) is told = tt
