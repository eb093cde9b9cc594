-- Following a chain.
use Rattle.std.proofs.Common.{◌≡◌, ℕ, zero, suc, ◌+◌, ◌<◌, ◌≤◌, ◌⊎◌, inl, inr, List, [], ◌∷◌, map, length, set, replicate, Option, None, Some, refl, sym, ◌∙◌, ap, subst, arith, length-set}
use Rattle.std.proofs.lemmas.List.{get_or-set_same, get_or-set_other, get_or-replicate, length-replicate}
use Rattle.std.proofs.Math.ListN.{get_or-map}
use Rattle.chains.specs.declared.link.Link.{Link}
use Rattle.chains.specs.declared.link.Link.TheVariants.{End, To, Nothing}
use Rattle.chains.specs.declared.marks.Mark.{Mark}
use Rattle.chains.specs.declared.marks.Mark.TheVariants.{Unseen, Endless, EndsAt}
use Rattle.chains.specs.Chains.{link_at, Ends, here, there, IsEnd, AreEnds}
use Rattle.chains.specs.Walks.{next_of, mark_of, end_of, mark_at, after, IsRight, AreRight, IsOn, AreRightBut, StaysWithin, StaySeen, IsWalked, IsSettled}
use Rattle.chains.proofs.Unseen.{unseen, unseen_below, unseen_put, unseen_some}

-- ---- numbers and marks

same_or_other : (i j : ℕ) → (i ≡ j) ⊎ ((i ≡ j → ⊥) × (j ≡ i → ⊥))
same_or_other i j = grind arith

unseen_within : (ms : List Mark) (k : ℕ) → mark_at ms k ≡ Unseen → k < length ms
unseen_within [] k e = absurd cc
unseen_within (m ∷ ms) zero e = omega arith
unseen_within (m ∷ ms) (suc k) e = omega (arith, unseen_within ms k e)

past_endless : (ms : List Mark) (k : ℕ) → length ms ≤ k → mark_at ms k ≡ Endless
past_endless [] k le = refl
past_endless (m ∷ ms) zero le = absurd (omega (arith, le))
past_endless (m ∷ ms) (suc k) le = past_endless ms k (omega (arith, le))

past_nothing : (links : List Link) (k : ℕ) → length links ≤ k → link_at links k ≡ Nothing
past_nothing [] k le = refl
past_nothing (l ∷ links) zero le = absurd (omega (arith, le))
past_nothing (l ∷ links) (suc k) le = past_nothing links k (omega (arith, le))

put_here : (ms : List Mark) (k : ℕ) (m : Mark) → k < length ms → mark_at (set ms k m) k ≡ m
put_here ms k m lt = get_or-set_same ms k m Endless lt

put_other : (ms : List Mark) (k j : ℕ) (m : Mark) → (j ≡ k → ⊥) → mark_at (set ms k m) j ≡ mark_at ms j
put_other ms k j m apart = get_or-set_other ms k j m Endless apart

-- ---- ends along a chain

module _ (links : List Link) where
  no_end : (k e : ℕ) → link_at links k ≡ Nothing → Ends links k e → ⊥
  no_end k e is (here end same) = absurd cc
  no_end k e is (there j to ends) = absurd cc

  at_next : (k j e : ℕ) → link_at links k ≡ To j → Ends links k e → Ends links j e
  at_next k j e is (here end same) = absurd cc
  at_next k j e is (there i to ends) = let o : i ≡ j = cc in subst (λ x. Ends links x e) o ends

  goes_back : (k j : ℕ) (r : Option ℕ) → link_at links k ≡ To j → IsEnd links j r → IsEnd links k r
  goes_back k j None is h = λ e ends. h e (at_next k j e is ends)
  goes_back k j (Some e) is h = there j is h

  goes_on : (k j : ℕ) (r : Option ℕ) → link_at links k ≡ To j → IsEnd links k r → IsEnd links j r
  goes_on k j None is h = λ e ends. h e (there j is ends)
  goes_on k j (Some e) is h = at_next k j e is h

  -- one step changes no end
  step_ends : (k : ℕ) (l : Link) (r : Option ℕ) → link_at links k ≡ l → IsEnd links k r → IsEnd links (next_of l k) r
  step_ends k End r is h = h
  step_ends k (To j) r is h = goes_on k j r is h
  step_ends k Nothing r is h = h

  step_back : (k : ℕ) (l : Link) (r : Option ℕ) → link_at links k ≡ l → IsEnd links (next_of l k) r → IsEnd links k r
  step_back k End r is h = h
  step_back k (To j) r is h = goes_back k j r is h
  step_back k Nothing r is h = h

  ends_after : (i k : ℕ) (r : Option ℕ) → IsEnd links k r → IsEnd links (after links i k) r
  ends_after zero k r h = h
  ends_after (suc i) k r h = step_ends (after links i k) (link_at links (after links i k)) r refl (ends_after i k r h)

  ends_before : (i k : ℕ) (r : Option ℕ) → IsEnd links (after links i k) r → IsEnd links k r
  ends_before zero k r h = h
  ends_before (suc i) k r h = ends_before i k r (step_back (after links i k) (link_at links (after links i k)) r refl h)

  right_mark : (k : ℕ) (r : Option ℕ) → IsEnd links k r → IsRight links k (mark_of r)
  right_mark k None h = h
  right_mark k (Some e) h = h

  -- a chain that comes back has no end
  module _ (start count : ℕ) (goes : (i : ℕ) → i < count → link_at links (after links i start) ≡ To (after links (suc i) start)) (back : IsOn links start count (after links count start)) where
    next_on : (i : ℕ) → i < count → IsOn links start count (after links (suc i) start)
    next_on i lt =
        elim (same_or_other (suc i) count) [
          | inl same ↦ subst (λ n. IsOn links start count (after links n start)) (sym same) back
          | inr apart ↦ (suc i, omega (arith, lt, apart.0), refl)
        ]

    circle : (k e : ℕ) → IsOn links start count k → Ends links k e → ⊥
    circle k e on (here end same) =
        let leads : link_at links k ≡ To (after links (suc on.0) start) = subst (λ x. link_at links x ≡ To (after links (suc on.0) start)) on.2 (goes on.0 on.1) in
        absurd cc
    circle k e on (there j to ends) =
        let leads : link_at links k ≡ To (after links (suc on.0) start) = subst (λ x. link_at links x ≡ To (after links (suc on.0) start)) on.2 (goes on.0 on.1) in
        let same : after links (suc on.0) start ≡ j = cc in
        circle j e (subst (λ x. IsOn links start count x) same (next_on on.0 on.1)) ends

-- ---- the walk

-- what is known after so many steps
pub record IsWalking (links : List Link) (start : ℕ) (old marks : List Mark) (place count : ℕ) : Type 0 where
  pub size : length marks ≡ length old
  pub seen : StaySeen old marks
  pub begun : mark_at marks start ≡ Unseen → count ≡ 0
  pub at : after links count start ≡ place
  pub goes : (i : ℕ) → i < count → link_at links (after links i start) ≡ To (after links (suc i) start)
  pub within : StaysWithin links start count (length marks)
  pub right : (k : ℕ) → IsRight links k (mark_at marks k) ⊎ ((mark_at marks k ≡ Endless) × IsOn links start count k)
  pub room : count + unseen marks ≤ length marks

pub walk_begins : (links : List Link) (start : ℕ) (marks : List Mark) → AreRight links marks → IsWalking links start marks marks start 0
walk_begins links start marks right = record {
  size = refl;
  seen = λ k e. e;
  begun = λ e. refl;
  at = refl;
  goes = λ i lt. absurd (omega (arith, lt));
  within = λ i lt. absurd (omega (arith, lt));
  right = λ k. inl (right k);
  room = omega (arith, unseen_below marks);
}

module _ (links : List Link) (start : ℕ) (old marks : List Mark) (place count : ℕ) (w : IsWalking links start old marks place count) where
  -- one more place is marked
  module _ (is : mark_at marks place ≡ Unseen) where
    marked : List Mark
    marked = set marks place Endless

    inside : place < length marks
    inside = unseen_within marks place is

    marked_size : length (set marks place Endless) ≡ length marks
    marked_size = length-set marks place Endless

    marked_seen : (k : ℕ) → mark_at (set marks place Endless) k ≡ Unseen → (k ≡ place → ⊥) × (mark_at marks k ≡ Unseen)
    marked_seen k e =
        elim (same_or_other k place) [
          | inl same ↦ (let here : mark_at (set marks place Endless) k ≡ Endless = subst (λ x. mark_at (set marks place Endless) x ≡ Endless) (sym same) (put_here marks place Endless inside) in absurd cc)
          | inr apart ↦ (apart.0, sym (put_other marks place k Endless apart.0) ∙ e)
        ]

    marked_begun : mark_at (set marks place Endless) start ≡ Unseen → ⊥
    marked_begun e =
        let other = marked_seen start e in
        other.0 (subst (λ n. after links n start ≡ place) (w.begun other.1) w.at)

    more_on : (k : ℕ) → IsOn links start count k → IsOn links start (count + 1) k
    more_on k on = (on.0, omega (arith, on.1), on.2)

    marked_right : (k : ℕ) → IsRight links k (mark_at (set marks place Endless) k) ⊎ ((mark_at (set marks place Endless) k ≡ Endless) × IsOn links start (count + 1) k)
    marked_right k =
        elim (same_or_other k place) [
          | inl same ↦ inr (subst (λ x. mark_at (set marks place Endless) x ≡ Endless) (sym same) (put_here marks place Endless inside), (count, omega arith, w.at ∙ sym same))
          | inr apart ↦ (let o = put_other marks place k Endless apart.0 in elim (w.right k) [
            | inl r ↦ inl (subst (λ m. IsRight links k m) (sym o) r)
            | inr r ↦ inr (o ∙ r.0, more_on k r.1)
          ])
        ]

    marked_within : StaysWithin links start (count + 1) (length (set marks place Endless))
    marked_within i lt =
        elim (same_or_other i count) [
          | inl same ↦ rw (marked_size, same, w.at) inside
          | inr apart ↦ rw marked_size (w.within i (omega (arith, lt, apart.0)))
        ]

    pub room_for_one : count < length marks
    room_for_one = omega (arith, w.room, unseen_some marks place is)

    pub walk_on : (next : ℕ) → link_at links place ≡ To next → IsWalking links start old (set marks place Endless) next (count + 1)
    walk_on next to =
        let on : link_at links (after links count start) ≡ To next = subst (λ x. link_at links x ≡ To next) (sym w.at) to in
        let e : count + 1 ≡ suc count = omega arith in
        let arrives : after links (suc count) start ≡ next = ap (λ l. next_of l (after links count start)) on in
        record {
          size = marked_size ∙ w.size;
          seen = λ k u. w.seen k (marked_seen k u).1;
          begun = λ u. absurd (marked_begun u);
          at = rw e arrives;
          goes = λ i lt. elim (same_or_other i count) [
            | inl same ↦ rw same (on ∙ ap To (sym arrives))
            | inr apart ↦ w.goes i (omega (arith, lt, apart.0))
          ];
          within = marked_within;
          right = marked_right;
          room = omega (arith, w.room, marked_size, unseen_put marks place is);
        }

    pub walk_ends : (r : Option ℕ) → IsEnd links place r → IsWalked links start old (set marks place Endless) (record { end = r; count = count + 1 })
    walk_ends r h = record {
      size = marked_size ∙ w.size;
      seen = λ k u. w.seen k (marked_seen k u).1;
      begun = marked_begun;
      end = ends_before links count start r (subst (λ x. IsEnd links x r) (sym w.at) h);
      within = marked_within;
      right = λ k. elim (marked_right k) [ inl x ↦ inl x | inr x ↦ inr x.1 ];
    }

  -- the walk comes to a place that was seen
  end_seen : (m : Mark) → mark_at marks place ≡ m → (m ≡ Unseen → ⊥) → IsEnd links place (end_of m)
  end_seen Unseen is not = absurd (not refl)
  end_seen Endless is not =
      elim (w.right place) [
        | inl r ↦ subst (λ m. IsRight links place m) is r
        | inr r ↦ (λ e ends. circle links start count w.goes (subst (λ x. IsOn links start count x) (sym w.at) r.1) place e r.1 ends)
      ]
  end_seen (EndsAt e) is not =
      elim (w.right place) [
        | inl r ↦ subst (λ m. IsRight links place m) is r
        | inr r ↦ (let f = r.0 in absurd cc)
      ]

  pub walk_meets : (mark_at marks place ≡ Unseen → ⊥) → IsWalked links start old marks (record { end = end_of (mark_at marks place); count = count })
  walk_meets not = record {
    size = w.size;
    seen = w.seen;
    begun = λ u. not (subst (λ x. mark_at marks x ≡ Unseen) (subst (λ n. after links n start ≡ place) (w.begun u) w.at) u);
    end = ends_before links count start (end_of (mark_at marks place)) (subst (λ x. IsEnd links x (end_of (mark_at marks place))) (sym w.at) (end_seen (mark_at marks place) refl not));
    within = w.within;
    right = λ k. elim (w.right k) [ inl x ↦ inl x | inr x ↦ inr x.1 ];
  }

-- ---- the marks of a walk

pub record IsSettling (links : List Link) (start count : ℕ) (old marks : List Mark) (place i : ℕ) : Type 0 where
  pub size : length marks ≡ length old
  pub seen : StaySeen old marks
  pub at : after links i start ≡ place
  pub right : (k : ℕ) → IsRight links k (mark_at marks k) ⊎ ((j : ℕ) × (i ≤ j) × (j < count) × (after links j start ≡ k))

pub settle_begins : (links : List Link) (start count : ℕ) (marks : List Mark) → AreRightBut links start count marks → IsSettling links start count marks marks start 0
settle_begins links start count marks right = record {
  size = refl;
  seen = λ k e. e;
  at = refl;
  right = λ k. elim (right k) [ inl r ↦ inl r | inr r ↦ inr (r.0, omega arith, r.1, r.2) ];
}

not_unseen : (r : Option ℕ) → mark_of r ≡ Unseen → ⊥
not_unseen None e = absurd cc
not_unseen (Some e) is = absurd cc

pub settle_on : (links : List Link) (start count : ℕ) (old marks : List Mark) (place i : ℕ) (r : Option ℕ) → IsEnd links start r → StaysWithin links start count (length old) → i < count
    → IsSettling links start count old marks place i → IsSettling links start count old (set marks place (mark_of r)) (next_of (link_at links place) place) (i + 1)
settle_on links start count old marks place i r end within lt s =
    let inside : place < length marks = rw (s.size, ← s.at) (within i lt) in
    let e : i + 1 ≡ suc i = omega arith in
    record {
      size = length-set marks place (mark_of r) ∙ s.size;
      seen = λ k u. elim (same_or_other k place) [
        | inl same ↦ absurd (not_unseen r (sym (put_here marks place (mark_of r) inside) ∙ subst (λ x. mark_at (set marks place (mark_of r)) x ≡ Unseen) same u))
        | inr apart ↦ s.seen k (sym (put_other marks place k (mark_of r) apart.0) ∙ u)
      ];
      at = rw (e, s.at) refl;
      right = λ k. elim (same_or_other k place) [
        | inl same ↦ (let ends : IsEnd links place r = subst (λ x. IsEnd links x r) s.at (ends_after links i start r end) in
            inl (subst (λ x. IsRight links x (mark_at (set marks place (mark_of r)) x)) (sym same)
            (subst (λ m. IsRight links place m) (sym (put_here marks place (mark_of r) inside)) (right_mark links place r ends))))
        | inr apart ↦ (elim (s.right k) [
          | inl x ↦ inl (subst (λ m. IsRight links k m) (sym (put_other marks place k (mark_of r) apart.0)) x)
          | inr x ↦ elim (same_or_other i x.0) [
            | inl same ↦ absurd (apart.1 (sym s.at ∙ subst (λ n. after links n start ≡ k) (sym same) x.3))
            | inr other ↦ inr (x.0, omega (arith, x.1, other.0), x.2, x.3)
          ]
        ])
      ];
    }

pub settle_ends : (links : List Link) (start count : ℕ) (old marks : List Mark) (place i : ℕ) → count ≤ i → IsSettling links start count old marks place i → IsSettled links old marks
settle_ends links start count old marks place i le s = record {
  size = s.size;
  seen = s.seen;
  right = λ k. elim (s.right k) [ inl r ↦ r | inr r ↦ absurd (omega (arith, le, r.1, r.2)) ];
}

pub ends_here : (links : List Link) (k : ℕ) → link_at links k ≡ End → IsEnd links k (Some k)
ends_here links k is = here is refl

pub ends_nowhere : (links : List Link) (k : ℕ) → link_at links k ≡ Nothing → IsEnd links k None
ends_nowhere links k is e ends = no_end links k e is ends

-- where all steps were taken no place is unseen
pub seen_or_full : (links : List Link) (start : ℕ) (old marks : List Mark) (place count : ℕ) → IsWalking links start old marks place count → length old ≤ count → mark_at marks place ≡ Unseen → ⊥
seen_or_full links start old marks place count w full is = absurd (omega (arith, full, w.size, w.room, unseen_some marks place is))

-- ---- all places

below_or_past : (k n : ℕ) → (k < n) ⊎ (n ≤ k)
below_or_past k n = grind arith

pub begin_right : (links : List Link) (k : ℕ) → IsRight links k (mark_at (replicate (length links) Unseen) k)
begin_right links k =
    elim (below_or_past k (length links)) [
      | inl lt ↦ subst (λ m. IsRight links k m) (sym (get_or-replicate (length links) k Unseen Endless lt)) tt
      | inr past ↦ subst (λ m. IsRight links k m) (sym (past_endless (replicate (length links) Unseen) k (rw (length-replicate (length links) Unseen) past)))
          (λ e ends. no_end links k e (past_nothing links k past) ends)
    ]

pub seen_more : (old new : List Mark) (start : ℕ) → ((k : ℕ) → k < start → mark_at old k ≡ Unseen → ⊥) → StaySeen old new → (mark_at new start ≡ Unseen → ⊥) → (k : ℕ) → k < start + 1 → mark_at new k ≡ Unseen → ⊥
seen_more old new start before seen begun k lt is =
    elim (same_or_other k start) [
      | inl same ↦ begun (subst (λ x. mark_at new x ≡ Unseen) same is)
      | inr apart ↦ before k (omega (arith, lt, apart.0)) (seen k is)
    ]

end_marked : (links : List Link) (k : ℕ) (m : Mark) → IsRight links k m → (m ≡ Unseen → ⊥) → IsEnd links k (end_of m)
end_marked links k Unseen r not = absurd (not refl)
end_marked links k Endless r not = r
end_marked links k (EndsAt e) r not = r

pub all_ends : (links : List Link) (marks : List Mark) (n : ℕ) → length links ≤ n → length marks ≡ length links → AreRight links marks → ((k : ℕ) → k < n → mark_at marks k ≡ Unseen → ⊥) → AreEnds links (map end_of marks)
all_ends links marks n whole size right seen k =
    subst (λ r. IsEnd links k r) (sym (get_or-map end_of marks k Endless))
    (end_marked links k (mark_at marks k) (right k) (λ is. seen k (omega (arith, whole, size, unseen_within marks k is)) is))

pub one_end : (links : List Link) (k d e : ℕ) → Ends links k d → Ends links k e → d ≡ e
one_end links k d e (here end same) (here end2 same2) = same ∙ sym same2
one_end links k d e (here end same) (there j to ends) = absurd cc
one_end links k d e (there j to ends) more = one_end links j d e ends (at_next links k j e to more)
