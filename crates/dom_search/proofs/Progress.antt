-- One tuple after the other, up to the outcome.
use Rattle.std.proofs.Common.{◌≡◌, ℕ, inl, inr, ◌+◌, ◌<◌, ◌⊎◌, Bool, true, false, List, ℤ, refl, sym, ◌∙◌, subst, arith}
use Rattle.std.proofs.lemmas.Bool.{cases_Bool}
use Rattle.dom_core.proofs.RisesLaws.{less_or_same}
use Rattle.dom_model.specs.Least.{IsFeasible, IsBetter, IsLeast}
use Rattle.dom_model.specs.Problem.{Problem}
use Rattle.dom_network.specs.Free.{IsTuple, free_values, tuple_count_of}
use Rattle.dom_search.specs.Progress.{Completes, IsSeen, IsBestSoFar, Improves}
use Rattle.dom_search.specs.Tuples.{tuple_at}
use Rattle.dom_search.proofs.Order.{better_trans, never_better}
use Rattle.dom_search.proofs.Tuples.{number_of}

-- values of the free variables have one completion
abbrev pub HasOneCompletion : Problem → Type 0
HasOneCompletion p = (values a b : List ℤ) → Completes p values a → Completes p values b → a ≡ b

-- a feasible assignment completes a tuple of the domains
abbrev pub FeasibleCompletes : Problem → Type 0
FeasibleCompletes p =
    (a : List ℤ) → IsFeasible p a
    → IsTuple p.network.domains (free_values p.network.definers a) × Completes p (free_values p.network.definers a) a

pub none_seen : (p : Problem) (best : List ℤ) → IsBestSoFar p 0 false best
none_seen p best = record {
  feasible = λ e. cc;
  least = λ e. cc;
  none = λ e b s f. absurd (omega (arith, s.1));
}

seen_cases : (p : Problem) (n : ℕ) (c b : List ℤ) → HasOneCompletion p → Completes p (tuple_at p.network.domains n) c → IsSeen p (n + 1) b
    → IsSeen p n b ⊎ (c ≡ b)
seen_cases p n c b one e s =
    elim (less_or_same s.0 n (omega (arith, s.1))) [
      | inl before ↦ inl (s.0, before, s.2)
      | inr same ↦ inr (one (tuple_at p.network.domains n) c b e (subst (λ (k : ℕ). Completes p (tuple_at p.network.domains k) b) same s.2))
    ]

-- where the candidate is feasible and better than what was there, it is the best of one tuple more
taken : (p : Problem) (n : ℕ) (c : List ℤ) (was_found : Bool) (was_best : List ℤ)
    → HasOneCompletion p → Completes p (tuple_at p.network.domains n) c → IsBestSoFar p n was_found was_best
    → IsFeasible p c → (was_found ≡ false) ⊎ IsBetter p c was_best
    → IsBestSoFar p (n + 1) true c
taken p n c was_found was_best one e so f better = record {
  feasible = λ _. f;
  least = λ _ b s g beats.
      elim (seen_cases p n c b one e s) [
        | inr same ↦ never_better p c (subst (λ (x : List ℤ). IsBetter p x c) (sym same) beats)
        | inl seen ↦
            elim (cases_Bool was_found) [
              | inl is ↦
                  elim better [
                    | inl isnt ↦ absurd (let both = sym is ∙ isnt in cc)
                    | inr beat ↦ so.least is b seen g (better_trans p b c was_best beats beat)
                  ]
              | inr isnt ↦ so.none isnt b seen g
            ]
      ];
  none = λ isnt. absurd (cc);
}

-- where it isn't, what was there is still the best
kept : (p : Problem) (n : ℕ) (c : List ℤ) (was_found : Bool) (was_best : List ℤ)
    → HasOneCompletion p → Completes p (tuple_at p.network.domains n) c → IsBestSoFar p n was_found was_best
    → (IsFeasible p c → ⊥) ⊎ ((was_found ≡ true) × (IsBetter p c was_best → ⊥))
    → IsBestSoFar p (n + 1) was_found was_best
kept p n c was_found was_best one e so worse = record {
  feasible = so.feasible;
  least = λ is b s g beats.
      elim (seen_cases p n c b one e s) [
        | inl seen ↦ so.least is b seen g beats
        | inr same ↦
            elim worse [
              | inl never ↦ never (subst (λ (x : List ℤ). IsFeasible p x) (sym same) g)
              | inr better ↦ better.1 (subst (λ (x : List ℤ). IsBetter p x was_best) (sym same) beats)
            ]
      ];
  none = λ isnt b s g.
      elim (seen_cases p n c b one e s) [
        | inl seen ↦ so.none isnt b seen g
        | inr same ↦
            elim worse [
              | inl never ↦ never (subst (λ (x : List ℤ). IsFeasible p x) (sym same) g)
              | inr better ↦ absurd (let both = sym (better.0) ∙ isnt in cc)
            ]
      ];
}

pub one_more : (p : Problem) (n : ℕ) (c : List ℤ) (was_found : Bool) (was_best : List ℤ) (found : Bool) (best : List ℤ)
    → HasOneCompletion p → Completes p (tuple_at p.network.domains n) c → IsBestSoFar p n was_found was_best → Improves p c was_found was_best found best
    → IsBestSoFar p (n + 1) found best
one_more p n c was_found was_best found best one e so step =
    elim step [
      | inl t ↦ rw (t.2, t.3) (taken p n c was_found was_best one e so t.0 t.1)
      | inr k ↦ rw (k.1, k.2) (kept p n c was_found was_best one e so k.0)
    ]

-- a feasible assignment is among those that complete all tuples
feasible_seen : (p : Problem) (b : List ℤ) → FeasibleCompletes p → IsFeasible p b → IsSeen p (tuple_count_of p.network.domains) b
feasible_seen p b completes f =
    let values = free_values p.network.definers b in
    let n : (k : ℕ) × (k < tuple_count_of p.network.domains) × (tuple_at p.network.domains k ≡ values) =
    number_of p.network.domains values (completes b f).0 in
    (n.0, n.1, subst (λ (xs : List ℤ). Completes p xs b) (sym n.2) (completes b f).1)

pub is_least : (p : Problem) (best : List ℤ) → FeasibleCompletes p → IsBestSoFar p (tuple_count_of p.network.domains) true best → IsLeast p best
is_least p best completes so = record {
  feasible = so.feasible refl;
  least = λ b f better. so.least refl b (feasible_seen p b completes f) f better;
}

pub is_none : (p : Problem) (best : List ℤ) → FeasibleCompletes p → IsBestSoFar p (tuple_count_of p.network.domains) false best
    → (b : List ℤ) → IsFeasible p b → ⊥
is_none p best completes so b f = so.none refl b (feasible_seen p b completes f) f
