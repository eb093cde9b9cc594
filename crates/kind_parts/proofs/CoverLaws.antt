-- One pass over a rising list finds whether it has each integer of an interval.
use Rattle.std.proofs.Common.{◌≡◌, ℕ, zero, suc, ◌<◌, ◌≤◌, ◌+◌, Bool, true, false, List, [], ◌∷◌, length, drop, get_or, ℤ, pos, ◌+ℤ◌, ◌<ℤ◌, ◌≤ℤ◌, int_lt, refl, sym, ◌∙◌, ap, arith, ◌⊎◌, inl, inr}
use Rattle.std.proofs.lemmas.Int.{ints}
use Rattle.std.proofs.lemmas.List.{drop_more}
use Rattle.std.specs.Ordering.{int_eq}
use Rattle.dom_core.specs.Ends.{Ends, IsOrdered}
use Rattle.dom_core.specs.Rises.{is_among, Rises, range_of}
use Rattle.dom_core.proofs.RisesLaws.{same_test, int_eq_same, int_eq_from, among_cases, among_head, among_tail, range-among}
use Rattle.dom_core.proofs.ProductLaws.{lt_true, lt_false}
use Rattle.dom_core.proofs.TestLaws.{false_eq, true_or_false, not_both}
use Rattle.kind_parts.specs.Set.{covers}
use Rattle.kind_parts.proofs.SetLaws.{between, from_low, to_high, all_among_has, among_all}

-- what a pass answers at one value: `over` where that lies beyond the next integer that is needed, `done` where it is the
-- last one needed, and else what the rest answers, with one more found where it is the next
abbrev pub turn : (over done next : Bool) (more rest : Bool) → Bool
turn true done next more rest = false
turn false true next more rest = true
turn false false true more rest = more
turn false false false more rest = rest

-- what a pass answers, from the next integer that is needed to the last
abbrev pub pass : List ℤ → ℤ → ℤ → Bool
pass [] next last = false
pass (y ∷ ys) next last = turn (int_lt next y) (int_eq y last) (int_eq y next) (pass ys (next +ℤ pos 1) last) (pass ys next last)

pub turn-over : (over done next more rest : Bool) → over ≡ true → turn over done next more rest ≡ false
turn-over true done next more rest h = refl
turn-over false done next more rest h = absurd (cc)

pub turn-done : (over done next more rest : Bool) → over ≡ false → done ≡ true → turn over done next more rest ≡ true
turn-done false true next more rest h g = refl
turn-done false false next more rest h g = absurd (cc)
turn-done true done next more rest h g = absurd (cc)

pub turn-next : (over done next more rest : Bool) → over ≡ false → done ≡ false → next ≡ true → turn over done next more rest ≡ more
turn-next false false true more rest h g e = refl
turn-next false false false more rest h g e = absurd (cc)
turn-next false true next more rest h g e = absurd (cc)
turn-next true done next more rest h g e = absurd (cc)

pub turn-rest : (over done next more rest : Bool) → over ≡ false → done ≡ false → next ≡ false → turn over done next more rest ≡ rest
turn-rest false false false more rest h g e = refl
turn-rest false false true more rest h g e = absurd (cc)
turn-rest false true next more rest h g e = absurd (cc)
turn-rest true done next more rest h g e = absurd (cc)

lt_is : (a b : ℤ) → a <ℤ b → int_lt a b ≡ true
lt_is a b h = grind (arith, ints)

not_lt : (a b : ℤ) → b ≤ℤ a → int_lt a b ≡ false
not_lt a b h = grind (arith, ints)

pub pass-over : (y next last : ℤ) (ys : List ℤ) → next <ℤ y → pass (y ∷ ys) next last ≡ false
pass-over y next last ys h = turn-over (int_lt next y) _ _ _ _ (lt_is next y h)

pub pass-done : (y next last : ℤ) (ys : List ℤ) → y ≤ℤ next → y ≡ last → pass (y ∷ ys) next last ≡ true
pass-done y next last ys h e = turn-done (int_lt next y) (int_eq y last) _ _ _ (not_lt next y h) (int_eq_from y last e)

pub pass-next : (y next last : ℤ) (ys : List ℤ) → (y ≡ last → ⊥) → y ≡ next → pass (y ∷ ys) next last ≡ pass ys (next +ℤ pos 1) last
pass-next y next last ys n e =
    turn-next (int_lt next y) (int_eq y last) (int_eq y next) _ _ (not_lt next y (omega (arith, ints))) (false_eq y last n) (int_eq_from y next e)

pub pass-rest : (y next last : ℤ) (ys : List ℤ) → y <ℤ next → (y ≡ last → ⊥) → pass (y ∷ ys) next last ≡ pass ys next last
pass-rest y next last ys h n =
    turn-rest (int_lt next y) (int_eq y last) (int_eq y next) _ _ (not_lt next y (omega (arith, ints))) (false_eq y last n) (false_eq y next (λ e. absurd (omega (arith, ints))))

above_next : (a b : ℤ) → a ≤ℤ b → (a ≡ b → ⊥) → (a +ℤ pos 1) ≤ℤ b
above_next a b h n = elim (true_or_false (int_eq a b)) [
  | inl same ↦ absurd (n (int_eq_same a b same))
  | inr other ↦ grind (arith, ints)
]

pub below_next : (a b : ℤ) → a ≤ℤ b → (a ≡ b → ⊥) → a <ℤ b
below_next a b h n = let k : (a +ℤ pos 1) ≤ℤ b = above_next a b h n in omega (arith, ints)

in_tail : (x y : ℤ) (ys : List ℤ) → y <ℤ x → is_among x (y ∷ ys) ≡ true → is_among x ys ≡ true
in_tail x y ys up h = elim (among_cases x y ys h) [ inl same ↦ absurd (omega (arith, ints)) | inr later ↦ later ]

-- where a value stands to the next integer that is needed and to the last
pub record Order (y next last : ℤ) : Type 0 where
  pub it : (next <ℤ y) ⊎ ((y ≤ℤ next) × (y ≡ last)) ⊎ ((y ≡ next) × (y ≡ last → ⊥)) ⊎ ((y <ℤ next) × (y ≡ last → ⊥))

pub order_of : (y next last : ℤ) → Order y next last
order_of y next last = elim (true_or_false (int_lt next y)) [
  | inl over ↦ record { it = inl (lt_true next y over) }
  | inr under ↦ elim (true_or_false (int_eq y last)) [
    | inl done ↦ record { it = inr (inl (lt_false next y under, int_eq_same y last done)) }
    | inr open_still ↦ elim (true_or_false (int_eq y next)) [
      | inl here ↦ record { it = inr (inr (inl (int_eq_same y next here, λ e. not_both (int_eq y last) (int_eq_from y last e) open_still))) }
      | inr passed ↦ record { it = inr (inr (inr (below_next y next (lt_false next y under) (λ e. not_both (int_eq y next) (int_eq_from y next e) passed), λ e. not_both (int_eq y last) (int_eq_from y last e) open_still))) }
    ]
  ]
]

-- a pass that answers yes found each integer
pub pass_finds : (ys : List ℤ) (next last : ℤ) → next ≤ℤ last → pass ys next last ≡ true
    → (x : ℤ) → next ≤ℤ x → x ≤ℤ last → is_among x ys ≡ true
pass_finds [] next last order h x low high = absurd (cc)
pass_finds (y ∷ ys) next last order h x low high = elim (order_of y next last).it [
  | inl over ↦ absurd (let e : false ≡ true = sym (pass-over y next last ys over) ∙ h in cc)
  | inr (inl done) ↦ (let a : y ≤ℤ next = done.0 in let b : y ≡ last = done.1 in
      let same : y ≡ x = omega (arith, ints) in ap (λ (z : ℤ). is_among z (y ∷ ys)) (sym same) ∙ among_head y ys)
  | inr (inr (inl here)) ↦ (let e : y ≡ next = here.0 in
      let later : next ≡ last → ⊥ = λ s. here.1 (e ∙ s) in
      let rest : pass ys (next +ℤ pos 1) last ≡ true = sym (pass-next y next last ys here.1 e) ∙ h in
      elim (true_or_false (int_eq x y)) [
        | inl same ↦ ap (λ (z : ℤ). is_among z (y ∷ ys)) (int_eq_same x y same) ∙ among_head y ys
        | inr other ↦ (let n : x ≡ y → ⊥ = λ s. not_both (int_eq x y) (int_eq_from x y s) other in
            among_tail x y ys (pass_finds ys (next +ℤ pos 1) last (above_next next last order later) rest x (above_next next x low (λ s. n (sym (e ∙ s)))) high))
      ])
  | inr (inr (inr passed)) ↦ among_tail x y ys (pass_finds ys next last order (sym (pass-rest y next last ys passed.0 passed.1) ∙ h) x low high)
]

-- a pass over a rising list that has each integer answers yes
pub finds_pass : (ys : List ℤ) (next last : ℤ) → Rises ys → next ≤ℤ last
    → ((x : ℤ) → next ≤ℤ x → x ≤ℤ last → is_among x ys ≡ true) → pass ys next last ≡ true
finds_pass [] next last r order all = absurd (let e : false ≡ true = all next (omega (arith, ints)) order in cc)
finds_pass (y ∷ ys) next last r order all = elim (order_of y next last).it [
  | inl over ↦ elim (among_cases next y ys (all next (omega (arith, ints)) order)) [
    | inl same ↦ absurd (omega (arith, ints))
    | inr later ↦ (let up : y <ℤ next = r.0 next later in absurd (omega (arith, ints)))
  ]
  | inr (inl done) ↦ pass-done y next last ys done.0 done.1
  | inr (inr (inl here)) ↦ (let e : y ≡ next = here.0 in
      let later : next ≡ last → ⊥ = λ s. here.1 (e ∙ s) in
      pass-next y next last ys here.1 e
      ∙ finds_pass ys (next +ℤ pos 1) last r.1 (above_next next last order later)
      (λ x low high. in_tail x y ys (omega (arith, ints)) (all x (omega (arith, ints)) high)))
  | inr (inr (inr passed)) ↦ (let under : y <ℤ next = passed.0 in
      pass-rest y next last ys passed.0 passed.1
      ∙ finds_pass ys next last r.1 order (λ x low high. in_tail x y ys (omega (arith, ints)) (all x low high)))
]

-- a pass over a rising list answers whether it has each integer of the interval
pub pass-covers : (xs : List ℤ) (e : Ends) → Rises xs → IsOrdered e → pass xs e.lo e.hi ≡ covers xs e
pass-covers xs e r order = same_test _ _
    (λ h. among_all (range_of e.lo e.hi) xs (λ x t.
    (let lies = sym (range-among e.lo e.hi x) ∙ t in pass_finds xs e.lo e.hi order h x (from_low e.lo x e.hi lies) (to_high e.lo x e.hi lies))))
    (λ h. finds_pass xs e.lo e.hi r order (λ x low high.
    all_among_has (range_of e.lo e.hi) xs x h (range-among e.lo e.hi x ∙ between e.lo x e.hi low high)))

-- ---- the turns of a loop

drop_end : (xs : List ℤ) (i : ℕ) → length xs ≤ i → drop i xs ≡ []
drop_end [] zero h = refl
drop_end [] (suc i) h = refl
drop_end (x ∷ xs) zero h = absurd (omega arith)
drop_end (x ∷ xs) (suc i) h = drop_end xs i (omega arith)

module _ (xs : List ℤ) (i : ℕ) (next last : ℤ) (answer : Bool) where
  split : i < length xs → pass (drop i xs) next last ≡ pass (get_or xs i (pos 0) ∷ drop (i + 1) xs) next last
  split lt = ap (λ (l : List ℤ). pass l next last) (drop_more xs i (pos 0) lt)

  pub turn_over : i < length xs → next <ℤ get_or xs i (pos 0) → pass (drop i xs) next last ≡ answer → false ≡ answer
  turn_over lt over e = sym (split lt ∙ pass-over (get_or xs i (pos 0)) next last (drop (i + 1) xs) over) ∙ e

  pub turn_done : i < length xs → get_or xs i (pos 0) ≤ℤ next → get_or xs i (pos 0) ≡ last → pass (drop i xs) next last ≡ answer → true ≡ answer
  turn_done lt under done e = sym (split lt ∙ pass-done (get_or xs i (pos 0)) next last (drop (i + 1) xs) under done) ∙ e

  pub turn_next : i < length xs → (get_or xs i (pos 0) ≡ last → ⊥) → get_or xs i (pos 0) ≡ next → pass (drop i xs) next last ≡ answer
      → pass (drop (i + 1) xs) (next +ℤ pos 1) last ≡ answer
  turn_next lt not_done here e = sym (split lt ∙ pass-next (get_or xs i (pos 0)) next last (drop (i + 1) xs) not_done here) ∙ e

  pub turn_rest : i < length xs → (get_or xs i (pos 0) ≡ last → ⊥) → get_or xs i (pos 0) <ℤ next → pass (drop i xs) next last ≡ answer
      → pass (drop (i + 1) xs) next last ≡ answer
  turn_rest lt not_done before e = sym (split lt ∙ pass-rest (get_or xs i (pos 0)) next last (drop (i + 1) xs) before not_done) ∙ e

  pub turn_end : length xs ≤ i → pass (drop i xs) next last ≡ answer → false ≡ answer
  turn_end over e = sym (ap (λ (l : List ℤ). pass l next last) (drop_end xs i over)) ∙ e
