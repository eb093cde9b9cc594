-- Numbers that are met under a label.
use Rattle.std.proofs.Common.{◌≡◌, ◌≢◌, ◌⊎◌, ◌↔◌, inl, inr, ℕ, zero, suc, ◌+◌, ◌<◌, ◌≤◌, ◌-◌, List, [], ◌∷◌, ◌++◌, length, take, get_or, set, slice_get, Some, refl, sym, ◌∙◌, ap, subst, arith}
use Rattle.std.specs.List.{Contains}
use Rattle.std.proofs.lemmas.Bool.{cases_eq}
use Rattle.std.proofs.lemmas.List.{length-set, get_or-set_same, get_or-set_other, take_more, get_or_default}
use Rattle.std.proofs.lemmas.Option.{get_or_from_slice_get, slice_get_within}
use Rattle.incidence.proofs.ContainsLaws.{contains_none, contains_push, contains_pushed, last_pushed, push_cases}
use Rattle.incidence.specs.Meeting.{AddsThose, HasLabel, IsMet, Meets}

-- ---- one number

module _ (label x : ℕ) (met : List ℕ) (lists : List (List ℕ)) where
  -- a number without a list
  pub meets_beyond : length lists ≤ x → Meets label (λ (y : ℕ). y ≡ x) met lists met lists
  meets_beyond le before h = (h, λ y. (λ has. inl has, λ c. elim c [ inl has ↦ has | inr new ↦ absurd (omega (arith, le, h.whole, new.0, new.1)) ]))

  was_met : (before : List (List ℕ)) → IsMet before label met lists → x < length before → slice_get (get_or lists x []) (length (get_or lists x []) - 1) ≡ Some label → Contains met x
  was_met before h lt top = elim (h.at x lt) [
    | inl none ↦ absurd (let last = subst (λ (xs : List ℕ). slice_get xs (length xs - 1) ≡ Some label) none.0 top in
        h.fresh x (length (get_or before x []) - 1, slice_get_within (get_or before x []) (length (get_or before x []) - 1) label last, get_or_from_slice_get (get_or before x []) (length (get_or before x []) - 1) label label last))
    | inr has ↦ has.1
  ]

  -- a number whose list has the label at its end
  pub meets_again : x < length lists → slice_get (get_or lists x []) (length (get_or lists x []) - 1) ≡ Some label → Meets label (λ (y : ℕ). y ≡ x) met lists met lists
  meets_again lt top before h =
      let there = was_met before h (omega (arith, lt, h.whole)) top in
      (h, λ y. (λ has. inl has, λ c. elim c [ inl has ↦ has | inr new ↦ subst (Contains met) (sym new.0) there ]))

  not_met : (before : List (List ℕ)) → IsMet before label met lists → x < length before → (slice_get (get_or lists x []) (length (get_or lists x []) - 1) ≡ Some label → ⊥)
      → get_or lists x [] ≡ get_or before x []
  not_met before h lt low = elim (h.at x lt) [
    | inl none ↦ none.0
    | inr has ↦ absurd (low (subst (λ (xs : List ℕ). slice_get xs (length xs - 1) ≡ Some label) (sym has.0) (last_pushed (get_or before x []) label)))
  ]

  other_label : (y : ℕ) (old new : List ℕ) → y ≢ x → HasLabel label met y old new → HasLabel label (met ++ x ∷ []) y old new
  other_label y old new apart c = elim c [
    | inl none ↦ inl (none.0, λ has. elim (push_cases met x y has) [ inl a ↦ none.1 a | inr b ↦ apart b ])
    | inr has ↦ inr (has.0, contains_push met x y has.1)
  ]

  -- a number whose list has it not
  pub meets_new : x < length lists → (slice_get (get_or lists x []) (length (get_or lists x []) - 1) ≡ Some label → ⊥)
      → Meets label (λ (y : ℕ). y ≡ x) met lists (met ++ x ∷ []) (set lists x (get_or lists x [] ++ label ∷ []))
  meets_new lt low before h = (
    record {
      whole = length-set lists x (get_or lists x [] ++ label ∷ []) ∙ h.whole;
      fresh = h.fresh;
      at = λ y below. elim (cases_eq y x) [
        | inl same ↦ subst (λ (z : ℕ). HasLabel label (met ++ x ∷ []) z (get_or before z []) (get_or (set lists x (get_or lists x [] ++ label ∷ [])) z [])) (sym same)
            (inr (get_or-set_same lists x (get_or lists x [] ++ label ∷ []) [] lt ∙ ap (λ (xs : List ℕ). xs ++ label ∷ []) (not_met before h (omega (arith, lt, h.whole)) low), contains_pushed met x))
        | inr apart ↦ other_label y (get_or before y []) (get_or (set lists x (get_or lists x [] ++ label ∷ [])) y []) apart
            (subst (HasLabel label met y (get_or before y [])) (sym (get_or-set_other lists x y (get_or lists x [] ++ label ∷ []) [] apart)) (h.at y below))
      ];
    },
    λ y. (
      λ has. elim (push_cases met x y has) [ inl a ↦ inl a | inr b ↦ inr (b, omega (arith, lt, h.whole, b)) ],
      λ c. elim c [ inl a ↦ contains_push met x y a | inr b ↦ subst (Contains (met ++ x ∷ [])) (sym b.0) (contains_pushed met x) ],
    ),
  )

-- ---- one behind the other

pub meets_none : (label : ℕ) (Q : ℕ → Type 0) (met : List ℕ) (lists : List (List ℕ)) → ((x : ℕ) → Q x → x < length lists → ⊥) → Meets label Q met lists met lists
meets_none label Q met lists none before h =
    (h, λ x. (λ has. inl has, λ c. elim c [ inl has ↦ has | inr new ↦ absurd (none x new.0 (omega (arith, new.1, h.whole))) ]))

module _ (label : ℕ) (Q P R : ℕ → Type 0) (m0 m1 m2 : List ℕ) (l0 l1 l2 : List (List ℕ)) where
  -- what is met first or then is met
  pub meets_then : Meets label Q m0 l0 m1 l1 → Meets label P m1 l1 m2 l2 → ((x : ℕ) → R x ↔ (Q x ⊎ P x)) → Meets label R m0 l0 m2 l2
  meets_then first second both before h =
      let one = first before h in
      let two = second before one.0 in (
        two.0,
        λ x. (
          λ has. elim ((two.1 x).0 has) [
            | inl old ↦ elim ((one.1 x).0 old) [ inl a ↦ inl a | inr b ↦ inr ((both x).1 (inl b.0), b.1) ]
            | inr new ↦ inr ((both x).1 (inr new.0), new.1)
          ],
          λ c. elim c [
            | inl old ↦ (two.1 x).1 (inl ((one.1 x).1 (inl old)))
            | inr new ↦ elim ((both x).0 new.0) [
              | inl q ↦ (two.1 x).1 (inl ((one.1 x).1 (inr (q, new.1))))
              | inr p ↦ (two.1 x).1 (inr (p, new.1))
            ]
          ],
        ),
      )

-- the same numbers, said in other words
pub meets_same : (label : ℕ) (Q R : ℕ → Type 0) (m0 m1 : List ℕ) (l0 l1 : List (List ℕ)) → Meets label Q m0 l0 m1 l1 → ((x : ℕ) → R x ↔ Q x) → Meets label R m0 l0 m1 l1
meets_same label Q R m0 m1 l0 l1 first same before h =
    let one = first before h in (
      one.0,
      λ x. (
        λ has. elim ((one.1 x).0 has) [ inl a ↦ inl a | inr b ↦ inr ((same x).1 b.0, b.1) ],
        λ c. elim c [ inl a ↦ (one.1 x).1 (inl a) | inr b ↦ (one.1 x).1 (inr ((same x).0 b.0, b.1)) ],
      ),
    )

-- ---- listed numbers

-- the first so many with the next
pub taken_next : (xs : List ℕ) (i x : ℕ) → i < length xs → Contains (take (i + 1) xs) x ↔ (Contains (take i xs) x ⊎ (x ≡ get_or xs i 0))
taken_next xs i x lt =
    let all : take (i + 1) xs ≡ take i xs ++ get_or xs i 0 ∷ [] = take_more xs i 0 lt in (
      λ has. push_cases (take i xs) (get_or xs i 0) x (subst (λ (ys : List ℕ). Contains ys x) all has),
      λ c. subst (λ (ys : List ℕ). Contains ys x) (sym all) (elim c [
        | inl a ↦ contains_push (take i xs) (get_or xs i 0) x a
        | inr b ↦ subst (Contains (take i xs ++ get_or xs i 0 ∷ [])) (sym b) (contains_pushed (take i xs) (get_or xs i 0))
      ]),
    )

-- ---- in the words of the calls

-- the list of the number, as it is read, has the label at its end
pub again : (label x : ℕ) (met : List ℕ) (inner lists : List (List ℕ)) (row : List ℕ) → inner ≡ lists → x < length inner → row ≡ get_or inner x row
    → slice_get row (length row - 1) ≡ Some label → Meets label (λ (y : ℕ). y ≡ x) met lists met lists
again label x met inner lists row view lt read top =
    let here : row ≡ get_or lists x [] = read ∙ get_or_default inner x row [] lt ∙ ap (λ (ls : List (List ℕ)). get_or ls x []) view in
    meets_again label x met lists (omega (arith, lt, ap length view)) (subst (λ (xs : List ℕ). slice_get xs (length xs - 1) ≡ Some label) here top)

-- the list of the number, as it is read, has it not
pub anew : (label x : ℕ) (met : List ℕ) (inner lists : List (List ℕ)) (row old grown all_met : List ℕ) → inner ≡ lists → x < length inner → row ≡ get_or inner x row
    → (slice_get row (length row - 1) ≡ Some label → ⊥) → old ≡ get_or inner x old → grown ≡ old ++ label ∷ [] → all_met ≡ met ++ x ∷ []
    → Meets label (λ (y : ℕ). y ≡ x) met lists all_met (set inner x grown)
anew label x met inner lists row old grown all_met view lt read low here more adds =
    let from : row ≡ get_or lists x [] = read ∙ get_or_default inner x row [] lt ∙ ap (λ (ls : List (List ℕ)). get_or ls x []) view in
    let list : old ≡ get_or lists x [] = here ∙ get_or_default inner x old [] lt ∙ ap (λ (ls : List (List ℕ)). get_or ls x []) view in
    let after : set lists x (get_or lists x [] ++ label ∷ []) ≡ set inner x grown =
    ap (λ (ls : List (List ℕ)). set ls x (get_or lists x [] ++ label ∷ [])) (sym view) ∙ ap (λ (xs : List ℕ). set inner x (xs ++ label ∷ [])) (sym list) ∙ ap (λ (xs : List ℕ). set inner x xs) (sym more) in
    subst (λ (m : List ℕ). Meets label (λ (y : ℕ). y ≡ x) met lists m (set inner x grown)) (sym adds)
    (subst (λ (ls : List (List ℕ)). Meets label (λ (y : ℕ). y ≡ x) met lists (met ++ x ∷ []) ls) after
    (meets_new label x met lists (omega (arith, lt, ap length view)) (λ top. low (subst (λ (xs : List ℕ). slice_get xs (length xs - 1) ≡ Some label) (sym from) top))))
