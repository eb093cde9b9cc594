-- Parts of a text, one after the other.
use Rattle.std.proofs.Common.{◌≡◌, ℕ, zero, suc, ◌+◌, ◌<◌, List, [], ◌∷◌, ◌++◌, length, take, append_assoc, sym, ◌∙◌, ap, subst, arith, slice_index_or}
use Rattle.std.proofs.lemmas.List.{append-nil, take_more}
use Rattle.dom_core.specs.declared.arg.Arg.{Arg}
use Rattle.dom_model.specs.Draft.{AreFitArgs, AreFitOutputs, IsFitArg, IsFitOutput}
use Rattle.dom_model.specs.declared.output.Output.{Output}
use Rattle.dom_report.specs.Text.{joined}

joined_push : {X : Type 0} (f : X → List ℕ) (xs : List X) (x : X) → joined f (xs ++ x ∷ []) ≡ joined f xs ++ f x
joined_push f [] x = append-nil (f x)
joined_push f (y ∷ ys) x = ap (λ (t : List ℕ). f y ++ t) (joined_push f ys x) ∙ sym (append_assoc (f y) (joined f ys) (f x))

-- one part more behind those so far
pub part_more : {X : Type 0} (f : X → List ℕ) (xs : List X) (i : ℕ) (d : X) (before text : List ℕ) → i < length xs
    → text ≡ before ++ joined f (take i xs) → text ++ f (slice_index_or xs i d) ≡ before ++ joined f (take (i + 1) xs)
part_more f xs i d before text within e =
    let parts = ap (joined f) (take_more xs i d within) ∙ joined_push f (take i xs) (slice_index_or xs i d) in
    ap (λ (t : List ℕ). t ++ f (slice_index_or xs i d)) e ∙ append_assoc before (joined f (take i xs)) (f (slice_index_or xs i d)) ∙ ap (λ (t : List ℕ). before ++ t) (sym parts)

-- the same of a part that was read from an equal list
pub one_part_more : {X : Type 0} (f : X → List ℕ) (xs ys : List X) (i : ℕ) (x : X) (before text : List ℕ) → ys ≡ xs → x ≡ slice_index_or ys i x → i < length ys
    → text ≡ before ++ joined f (take i xs) → text ++ f x ≡ before ++ joined f (take (i + 1) xs)
one_part_more {X} f xs ys i x before text same is within e =
    let is_part : x ≡ slice_index_or xs i x = is ∙ ap (λ (zs : List X). slice_index_or zs i x) same in
    let step = part_more f xs i x before text (subst (λ (zs : List X). i < length zs) same within) e in
    ap (λ (y : X). text ++ f y) is_part ∙ step

-- the same where something is written before the part
pub separated_more : {X : Type 0} (f : X → List ℕ) (separator : List ℕ) (xs : List X) (i : ℕ) (d : X) (before text : List ℕ) → i < length xs
    → text ≡ before ++ joined (λ x. separator ++ f x) (take i xs)
    → (text ++ separator) ++ f (slice_index_or xs i d) ≡ before ++ joined (λ x. separator ++ f x) (take (i + 1) xs)
separated_more {X} f separator xs i d before text within e =
    append_assoc text separator (f (slice_index_or xs i d)) ∙ part_more (λ (x : X). separator ++ f x) xs i d before text within e

-- each of the outputs is fit
fit_output_at : (n : ℕ) (os : List Output) (i : ℕ) (d : Output) → AreFitOutputs n os → i < length os → IsFitOutput n (slice_index_or os i d)
fit_output_at n [] i d h within = absurd (omega arith)
fit_output_at n (o ∷ os) zero d h within = h.0
fit_output_at n (o ∷ os) (suc i) d h within = fit_output_at n os i d h.1 (omega (arith, within))

pub fit_output : (n : ℕ) (os : List Output) (i : ℕ) (o : Output) → AreFitOutputs n os → i < length os → o ≡ slice_index_or os i o → IsFitOutput n o
fit_output n os i o h within is = subst (IsFitOutput n) (sym is) (fit_output_at n os i o h within)

-- each of the arguments is fit
pub fit_arg : (n : ℕ) (xs : List Arg) (i : ℕ) (d : Arg) → AreFitArgs n xs → i < length xs → IsFitArg n (slice_index_or xs i d)
fit_arg n [] i d h within = absurd (omega arith)
fit_arg n (x ∷ xs) zero d h within = h.0
fit_arg n (x ∷ xs) (suc i) d h within = fit_arg n xs i d h.1 (omega (arith, within))
