-- A text has one answer.
use Rattle.std.proofs.Common.{◌≡◌, ℕ, ◌<◌, List, Result, Ok, Err, refl, sym, ◌∙◌, ap, subst, arith}
use Rattle.std.proofs.lemmas.Option.{same_Some}
use Rattle.fzn_symbols.specs.declared.error.NameError.{NameError}
use Rattle.fzn_symbols.specs.declared.error.NameError.TheVariants.{NameTwice, UnknownName, Memory}
use Rattle.fzn_symbols.specs.declared.occurrence.Role.TheVariants.{Declares, Uses}
use Rattle.fzn_symbols.specs.Numbered.{Mark, IsFault, IsFirstFault, IsNumbered}

-- at one place there is one fault
one_fault : (os : List Mark) (k : ℕ) (e f : NameError) → IsFault os k e → IsFault os k f → e ≡ f
one_fault os k (NameTwice at) (NameTwice b) h g =
    let o : h.0 ≡ g.0 = same_Some h.0 g.0 (sym h.1 ∙ g.1) in
    let places : at ≡ b = sym h.4 ∙ ap (λ (p : Mark). p.at) o ∙ g.4 in
    cc
one_fault os k (NameTwice at) (UnknownName b) h g =
    let o : h.0 ≡ g.0 = same_Some h.0 g.0 (sym h.1 ∙ g.1) in
    let declares : g.0.role ≡ Declares = sym (ap (λ (p : Mark). p.role) o) ∙ h.2 in
    let uses = g.2 in
    absurd cc
one_fault os k (NameTwice at) Memory h g = absurd g
one_fault os k (UnknownName at) (NameTwice b) h g =
    let o : h.0 ≡ g.0 = same_Some h.0 g.0 (sym h.1 ∙ g.1) in
    let uses : g.0.role ≡ Uses = sym (ap (λ (p : Mark). p.role) o) ∙ h.2 in
    let declares = g.2 in
    absurd cc
one_fault os k (UnknownName at) (UnknownName b) h g =
    let o : h.0 ≡ g.0 = same_Some h.0 g.0 (sym h.1 ∙ g.1) in
    let places : at ≡ b = sym h.4 ∙ ap (λ (p : Mark). p.at) o ∙ g.4 in
    cc
one_fault os k (UnknownName at) Memory h g = absurd g
one_fault os k Memory f h g = absurd h

one_first : (os : List Mark) (e f : NameError) → IsFirstFault os e → IsFirstFault os f → e ≡ f
one_first os e f h g =
    let not_before : h.0 < g.0 → ⊥ = λ lt. g.2 h.0 e lt h.1 in
    let not_behind : g.0 < h.0 → ⊥ = λ lt. h.2 g.0 f lt g.1 in
    let place : g.0 ≡ h.0 = omega (arith, not_before, not_behind) in
    one_fault os h.0 e f h.1 (subst (λ (k : ℕ). IsFault os k f) place g.1)

pub one_numbering : (os : List Mark) (r s : Result (List (List ℕ)) NameError) → IsNumbered os r → IsNumbered os s → (r ≡ Err Memory → ⊥) → (s ≡ Err Memory → ⊥) → r ≡ s
one_numbering os (Ok a) (Ok b) h g m n = ap Ok (h.0 ∙ sym g.0)
one_numbering os (Ok a) (Err (NameTwice at)) h g m n = absurd (h.1 g.0 (NameTwice at) g.1)
one_numbering os (Ok a) (Err (UnknownName at)) h g m n = absurd (h.1 g.0 (UnknownName at) g.1)
one_numbering os r (Err Memory) h g m n = absurd (n refl)
one_numbering os (Err Memory) s h g m n = absurd (m refl)
one_numbering os (Err (NameTwice at)) (Ok b) h g m n = absurd (g.1 h.0 (NameTwice at) h.1)
one_numbering os (Err (UnknownName at)) (Ok b) h g m n = absurd (g.1 h.0 (UnknownName at) h.1)
one_numbering os (Err (NameTwice at)) (Err (NameTwice b)) h g m n = ap (λ x. Err x) (one_first os (NameTwice at) (NameTwice b) h g)
one_numbering os (Err (NameTwice at)) (Err (UnknownName b)) h g m n = ap (λ x. Err x) (one_first os (NameTwice at) (UnknownName b) h g)
one_numbering os (Err (UnknownName at)) (Err (NameTwice b)) h g m n = ap (λ x. Err x) (one_first os (UnknownName at) (NameTwice b) h g)
one_numbering os (Err (UnknownName at)) (Err (UnknownName b)) h g m n = ap (λ x. Err x) (one_first os (UnknownName at) (UnknownName b) h g)
