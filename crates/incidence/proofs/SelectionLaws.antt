-- Selections: one more of the order.
use Rattle.std.proofs.Common.{◌≡◌, ◌⊎◌, ◌↔◌, inl, inr, ℕ, zero, suc, ◌+◌, ◌<◌, ◌≤◌, List, [], ◌∷◌, ◌++◌, length, take, get_or, replicate, refl, sym, ◌∙◌, ap, subst, arith, add-one}
use Rattle.std.specs.List.{Contains}
use Rattle.std.proofs.lemmas.Bool.{cases_lt}
use Rattle.std.proofs.lemmas.List.{length-replicate, get_or-replicate, get_or_past}
use Rattle.incidence.proofs.ContainsLaws.{contains_none, contains_push, contains_pushed, push_cases}
use Rattle.incidence.specs.Holders.{Holds, count_up}
use Rattle.incidence.specs.Meeting.{AddsThose, HasLabel, IsMet, Meets}
use Rattle.incidence.specs.Selection.{AreSelections, IsAlong, IsSelection}

along_none : (order : List ℕ) → IsAlong order []
along_none [] = refl
along_none (x ∷ order) = inl (along_none order)

-- one that is passed over
pub along_passed : (order : List ℕ) (k : ℕ) (list : List ℕ) → IsAlong order list → IsAlong (order ++ k ∷ []) list
along_passed [] k list h = inl h
along_passed (x ∷ order) k list h = elim h [
  | inl rest ↦ inl (along_passed order k list rest)
  | inr taken ↦ inr (taken.0, taken.1, along_passed order k taken.0 taken.2)
]

-- one that is taken
pub along_taken : (order : List ℕ) (k : ℕ) (list : List ℕ) → IsAlong order list → IsAlong (order ++ k ∷ []) (list ++ k ∷ [])
along_taken [] k list h = inr ([], ap (λ (xs : List ℕ). xs ++ k ∷ []) h, refl)
along_taken (x ∷ order) k list h = elim h [
  | inl rest ↦ inl (along_taken order k list rest)
  | inr taken ↦ inr (taken.0 ++ k ∷ [], ap (λ (xs : List ℕ). xs ++ k ∷ []) taken.1, along_taken order k taken.0 taken.2)
]

module _ (P : ℕ → Type 0) (order : List ℕ) (k : ℕ) (old : List ℕ) (h : IsSelection order P old) where
  selected_not : (P k → ⊥) → IsSelection (order ++ k ∷ []) P old
  selected_not never = record {
    has = λ j. (
      λ c. (let g = (h.has j).0 c in (contains_push order k j g.0, g.1)),
      λ c. elim (push_cases order k j c.0) [ inl a ↦ (h.has j).1 (a, c.1) | inr b ↦ absurd (never (subst P b c.1)) ],
    );
    along = along_passed order k old h.along;
  }

  selected_too : P k → IsSelection (order ++ k ∷ []) P (old ++ k ∷ [])
  selected_too yes_it = record {
    has = λ j. (
      λ c. elim (push_cases old k j c) [
        | inl a ↦ (let g = (h.has j).0 a in (contains_push order k j g.0, g.1))
        | inr b ↦ subst (λ (i : ℕ). Contains (order ++ k ∷ []) i × P i) (sym b) (contains_pushed order k, yes_it)
      ],
      λ c. elim (push_cases order k j c.0) [
        | inl a ↦ contains_push old k j ((h.has j).1 (a, c.1))
        | inr b ↦ subst (Contains (old ++ k ∷ [])) (sym b) (contains_pushed old k)
      ],
    );
    along = along_taken order k old h.along;
  }

pub selections_none : (R : ℕ → ℕ → Type 0) (count : ℕ) → AreSelections [] R count (replicate count [])
selections_none R count = record {
  whole = length-replicate count [];
  each = λ x lt. subst (IsSelection [] (λ k. R k x)) (sym (get_or-replicate count x [] [] lt))
      (record { has = λ k. (λ c. absurd (contains_none k c), λ c. c.0); along = refl });
}

module _ (R : ℕ → ℕ → Type 0) (order : List ℕ) (count k : ℕ) (Q : ℕ → Type 0) (met : List ℕ) (old new : List (List ℕ)) (h : AreSelections order R count old) where
  unseen : (Contains order k → ⊥) → (x : ℕ) → Contains (get_or old x []) k → ⊥
  unseen apart x has = elim (cases_lt x count) [
    | inl lt ↦ apart (((h.each x lt).has k).0 has).0
    | inr past ↦ absurd (contains_none k (subst (λ (xs : List ℕ). Contains xs k) (get_or_past old x [] (omega (arith, past, h.whole))) has))
  ]

  pub met_none : (Contains order k → ⊥) → IsMet old k [] old
  met_none apart = record { whole = refl; fresh = unseen apart; at = λ x lt. inl (refl, contains_none x) }

  -- those for which this holds are met under one label more
  pub selections_next : (Contains order k → ⊥) → Meets k Q [] old met new → ((x : ℕ) → x < count → Q x ↔ R k x) → AreSelections (order ++ k ∷ []) R count new
  selections_next apart meets same =
      let after = meets old (met_none apart) in
      record {
        whole = after.0.whole ∙ h.whole;
        each = λ x lt. elim (after.0.at x (omega (arith, lt, h.whole))) [
          | inl none ↦ subst (IsSelection (order ++ k ∷ []) (λ j. R j x)) (sym none.0)
              (selected_not (λ j. R j x) order k (get_or old x []) (h.each x lt) (λ r. none.1 ((after.1 x).1 (inr ((same x lt).1 r, omega (arith, lt, h.whole))))))
          | inr has ↦ subst (IsSelection (order ++ k ∷ []) (λ j. R j x)) (sym has.0)
              (selected_too (λ j. R j x) order k (get_or old x []) (h.each x lt) (elim ((after.1 x).0 has.1) [ inl a ↦ absurd (contains_none x a) | inr b ↦ (same x lt).0 b.0 ]))
        ];
      }

-- ---- counting up

pub counted_below : (n k : ℕ) → Contains (count_up n) k → k < n
counted_below zero k h = absurd (contains_none k h)
counted_below (suc n) k h = elim (push_cases (count_up n) n k h) [ inl a ↦ (let lt = counted_below n k a in omega (arith, lt)) | inr b ↦ omega (arith, b) ]

pub counted_itself : (n : ℕ) → Contains (count_up n) n → ⊥
counted_itself n h = absurd (let lt = counted_below n n h in omega (arith, lt))

pub counted_next : (n : ℕ) → count_up (n + 1) ≡ count_up n ++ n ∷ []
counted_next n = ap count_up (add-one n)

-- one row more
pub held_next : (rows : List (List ℕ)) (count k : ℕ) (row start met : List ℕ) (old new : List (List ℕ)) → AreSelections (count_up k) (Holds rows) count old
    → row ≡ get_or rows k [] → start ≡ [] → Meets k (Contains row) start old met new → AreSelections (count_up (k + 1)) (Holds rows) count new
held_next rows count k row start met old new h here none meets =
    subst (λ (order : List ℕ). AreSelections order (Holds rows) count new) (sym (counted_next k))
    (selections_next (Holds rows) (count_up k) count k (Contains row) met old new h (counted_itself k) (subst (λ (m : List ℕ). Meets k (Contains row) m old met new) none meets)
    (λ x lt. (λ has. subst (λ (xs : List ℕ). Contains xs x) here has, λ has. subst (λ (xs : List ℕ). Contains xs x) (sym here) has)))
