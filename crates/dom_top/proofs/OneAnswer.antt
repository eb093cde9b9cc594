-- What follows where a result has one answer, want of memory aside.
use Rattle.std.proofs.Common.{◌≡◌, ◌≢◌, Result, Ok, Err}

-- two answers are the same, where neither is want of memory
abbrev pub IsOne : {X E : Type 0} → E → (Result X E → Type 0) → Type 0
IsOne {X} {E} memory R =
    (one other : Result X E) → R one → R other → (one ≡ Err memory → ⊥) → (other ≡ Err memory → ⊥) → one ≡ other

module _ {X E : Type 0} (memory : E) (R : Result X E → Type 0) (law : IsOne memory R) where
  pub one_value : (a b : X) → R (Ok a) → R (Ok b) → a ≡ b
  one_value a b r s =
      let same = law (Ok a) (Ok b) r s (λ e. cc) (λ e. cc) in
      cc

  pub one_error : (a b : E) → a ≢ memory → b ≢ memory → R (Err a) → R (Err b) → a ≡ b
  one_error a b named other_named r s =
      let same = law (Err a) (Err b) r s (λ e. named (cc)) (λ e. other_named (cc)) in
      cc

  pub not_both : (a : X) (b : E) → b ≢ memory → R (Ok a) → R (Err b) → ⊥
  not_both a b named r s =
      let same = law (Ok a) (Err b) r s (λ e. cc) (λ e. named (cc)) in
      cc
